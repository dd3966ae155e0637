-- `desk::text::Room::put_shown` puts no control byte.
use Rattle.desk.proofs.Showing.{clean_front}
use Rattle.desk.proofs.text.Room.put_shown.Goals as goal

pub returns : goal.returns
returns g c =
    let room = c.self.inside in
    rw (← c.self.view_is) (clean_front room.bytes _ room.size _ c.self.invariant (c.put_shown-self-inside.ensures.room c.self.invariant) c.put_shown-self-inside.ensures.shown)
