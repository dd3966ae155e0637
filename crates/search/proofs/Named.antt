-- What the look for an output comes to, by names that other crates can use: its type is private to the code.
use Rattle.std.specs.Prelude.{Result, Ok}
use Rattle.table.specs.declared.Row.{Row}
use Rattle.table.specs.declared.Damage.{Damage}
use Rattle.search.specs.declared.Search.{Search}
use Rattle.search.specs.declared.seek.Sought.{Sought}
use Rattle.search.specs.declared.seek.Sought.TheVariants as sought

-- the look for an output comes to one at a value, or to the text's end
abbrev pub output_at : Row → Search → Result Sought Damage
output_at row at = Ok (sought.Given row at)

abbrev pub ends_at : Search → Result Sought Damage
ends_at at = Ok (sought.End at)
