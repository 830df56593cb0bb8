-- What a register holds and answers, as the definitions of a run speak of it.
use Rattle.std.specs.Prelude.{ℕ, List, Ok, Err, Result}
use Rattle.denial.specs.Denials.{denial_report}
use Rattle.denial.specs.declared.Denial.{Denial}
use Rattle.plan.specs.declared.Plan.{Plan}
use Rattle.plan.specs.Meanings.{table_in, box_in, plan_roles}
use Rattle.search.specs.declared.Node.{Node}
use Rattle.runs.specs.Setups.{Setup}
use Rattle.runs.specs.Steps.{Reply, refused, Done}
use Rattle.register.specs.declared.Register.{Register}

-- the setup of a plan, for a book with so many entries
abbrev pub setup_in : Plan → ℕ → Setup
setup_in p entries = record { box = box_in p; table = table_in p; roles = plan_roles p; entries = entries }

abbrev pub setup_of : Register → Setup
setup_of g = setup_in g.plan g.entries

-- the entries by which the classes stand, that of class 1 first
abbrev pub classes_of : Register → List ℕ
classes_of g = g.classes

-- the reply of a result, where `view` says what the value tells
abbrev pub reply_of : {A : Type 0} → (A → Reply) → Result A Denial → Reply
reply_of view (Ok x) = view x
reply_of view (Err d) = refused (denial_report d)

-- what a call came to: its reply, and the register, the nodes and the words after it
abbrev pub done : Reply → Register → List Node → List ℕ → Done
done r g nodes words = record { reply = r; classes = classes_of g; nodes = nodes; sheet = words }

-- of a register that is opened the verdict says no more than that there is one
abbrev pub opening : Register → Unit {0}
opening g = tt
