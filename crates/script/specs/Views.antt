-- What the code's session holds.
use Rattle.std.specs.Prelude.{vec_items}
use Rattle.script.specs.declared.session.Session.{Session}
use Rattle.script.specs.Registers.{opened_of, world_of}
use Rattle.script.specs.Sessions.{Held}

abbrev pub held_of : Session → Held
held_of s = record { bytes = vec_items s.bytes; register = opened_of s.register; world = world_of s.words }
