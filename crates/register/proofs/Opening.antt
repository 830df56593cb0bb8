-- What a register that is opened holds.
use Rattle.std.proofs.Common.{◌≡◌, ℕ, ◌-◌, List, [], subst, arith}
use Rattle.meaning.specs.Orders.{RoleBox}
use Rattle.meaning.specs.Books.{Book}
use Rattle.tableau.specs.Promises.{Opens}
use Rattle.plan.specs.declared.Plan.{Plan}
use Rattle.plan.specs.Building.{Planned}
use Rattle.plan.proofs.Building.{planned_table, planned_box}
use Rattle.runs.specs.Setups.{setup}
use Rattle.runs.specs.Runs.{Event, Run, Right}
use Rattle.runs.proofs.Rightness.{every_run_is_right}
use Rattle.register.specs.Registers.{setup_in}

-- the plan of the book under the hierarchy is its setup
pub setup_same : (H : RoleBox) (K : Book) (p : Plan) (e : ℕ) → Planned H K p → Opens H K → e ≡ K.entries → setup_in p e ≡ setup H K
setup_same H K p e h P same =
    let roles : p.count - 1 ≡ H.count = omega (arith, h.count_is, P.few) in
    λ i. record { box = planned_box H K p h i; table = planned_table H K p h i; roles = roles i; entries = same i }

-- so every run on it is right, where no class stands yet
pub right_from : (H : RoleBox) (K : Book) (p : Plan) (e : ℕ) (cs : List ℕ) → Planned H K p → Opens H K → e ≡ K.entries → cs ≡ []
    → (run : List Event) → Run (setup_in p e) cs run → Right H K run
right_from H K p e cs h P same fresh run steps =
    every_run_is_right H K P run (subst (λ S. Run S [] run) (setup_same H K p e h P same) (subst (λ ds. Run (setup_in p e) ds run) fresh steps))
