-- The plan of a book under a hierarchy: when there is one, and what it holds.
use Rattle.std.specs.Prelude.{◌≡◌, ◌↔◌, ℕ, cond, ◌&&◌, ◌==◌, nat_le, nat_lt, slice_index}
use Rattle.words.specs.Sets.{has}
use Rattle.denial.specs.Denials.{Answer, granted, denied, reported}
use Rattle.denial.specs.declared.Layer.TheVariants.{Register}
use Rattle.meaning.specs.Books.{Book, Sound}
use Rattle.meaning.specs.Orders.{RoleBox, role_box}
use Rattle.meaning.specs.Universal.{universal_size, with_universal}
use Rattle.roles.specs.Rows.{related}
use Rattle.roles.specs.declared.rows.Rows.{Rows}
use Rattle.tableau.specs.Entries.{Ordered}
use Rattle.tableau.specs.Working.{plain_of, width_of, entry_of, propagates_of}
use Rattle.tableau.specs.Promises.{Opens}
use Rattle.plan.specs.declared.Plan.{Plan}
use Rattle.plan.specs.Plans.{listed_entry}

-- the plan holds the table of the book under the hierarchy, and the hierarchy with its universal role
pub record Planned (H : RoleBox) (K : Book) (p : Plan) : Type 0 where
  pub width_is : p.width ≡ width_of H K
  pub plain_is : p.plain ≡ plain_of H K
  pub count_is : p.count ≡ universal_size H.count
  pub entry_is : (i : ℕ) → listed_entry p.entries i ≡ entry_of H K i
  pub propagated_is : (i j : ℕ) → has (slice_index p.propagated i) j ≡ propagates_of H K i j
  pub row_is : (r s : ℕ) → has (slice_index p.rows r) s ≡ (with_universal H).below r s
  pub marks_are : (r : ℕ) → has p.marks r ≡ (with_universal H).transitive r

-- Whether there is a plan: refused with 12 where the count of the hierarchy is not the book's, or leaves no number for
-- the universal role; and then with 13 where there are more than 64 working entries.
abbrev pub verdict : RoleBox → Book → Answer (Unit {0})
verdict H K =
    cond (H.count == K.roles && nat_lt H.count 64)
    (cond (nat_le (width_of H K) 64) (granted tt) (denied (reported 13 (width_of H K) Register)))
    (denied (reported 12 H.count Register))

-- Of a lawful hierarchy and a sound book: a plan is granted exactly where what the theorems about the search ask for holds.
abbrev pub VerdictOpens : Type 0
VerdictOpens = (H : RoleBox) (K : Book) → Ordered H → Sound K → (verdict H K ≡ granted tt) ↔ Opens H K

-- of a plan the verdict says no more than that there is one
abbrev pub granting : Plan → Unit {0}
granting p = tt

-- what a hierarchy that is kept as rows says
abbrev pub box_of : Rows → RoleBox
box_of x = role_box x.count (related x.rows) (has x.marks)
