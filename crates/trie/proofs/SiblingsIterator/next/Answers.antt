-- The walk along children goes on from the next sibling.
use Prim.Native.Nat.{◌<◌}
use Rattle.list.specs.Limits.{alphabet}
use Rattle.trie.specs.Trie.{slots_of}
use Rattle.trie.specs.Children.{Walks, rank}
use Rattle.trie.proofs.Seeking.{walks_on}
use Rattle.trie.proofs.SiblingsIterator.next.Goals as goal

pub returns-clause-goes : goal.returns-clause-goes
returns-clause-goes c =
    let rows = c.args.self.now.trie.now in
    let on : Walks rows c.next_sibling-self.result.0
    × (rank alphabet (slots_of rows) c.next_sibling-self.result.0 < rank alphabet (slots_of rows) c.args.self.now.next.0)
    = rw c.next_sibling-self.ensures (walks_on c.requires c.if-child-eq0.false) in
    record { on = λ fin. (on.0, tt, on.1); keeps = on.0; rests = λ fin. tt }
