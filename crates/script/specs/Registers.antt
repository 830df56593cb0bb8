-- What the parts of the code's session hold.
use Rattle.std.specs.Prelude.{ℕ, List, Some, None, Option, Vec, vec_items}
use Rattle.std.specs.declared.alloc.Global.{Global}
use Rattle.register.specs.declared.Register.{Register}
use Rattle.register.specs.Registers.{setup_of, classes_of}
use Rattle.script.specs.Sessions.{Opened}

abbrev pub opened_at : Register → Opened
opened_at g = record { setup = setup_of g; classes = classes_of g }

abbrev pub opened_of : Option Register → Option Opened
opened_of (Some g) = Some (opened_at g)
opened_of None = None

abbrev pub world_of : Option (Vec ℕ Global) → Option (List ℕ)
world_of (Some v) = Some (vec_items v)
world_of None = None
