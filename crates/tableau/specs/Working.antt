-- The working entries of a book under a hierarchy: its concept entries, the propagated restrictions, an entry for each
-- rule, one for all rules (*book*), and one that says it of every individual (*everywhere*).
use Rattle.std.specs.Prelude.{ℕ, ◌+◌, ◌-◌, Bool, true, false, cond, not, ◌&&◌, List, [], ◌∷◌, length, get_or, ◌==◌, nat_le, nat_lt, slice_index_or}
use Rattle.meaning.specs.Books.{Book}
use Rattle.meaning.specs.Orders.{RoleBox}
use Rattle.meaning.specs.declared.Concept.{Concept}
use Rattle.meaning.specs.declared.Concept.TheVariants.{Nothing, Everything, Name, Not, And, Or, Restriction}
use Rattle.meaning.specs.declared.Quantifier.TheVariants.{Forall}
use Rattle.meaning.specs.declared.Rule.{Rule}
use Rattle.tableau.specs.declared.Label.{Label}
use Rattle.tableau.specs.declared.Entry.{Entry}
use Rattle.tableau.specs.declared.Entry.TheVariants.{Plain, Inclusion, Inclusions}
use Rattle.tableau.specs.Folds.{gather}
use Rattle.tableau.specs.Labels.{empty, put}
use Rattle.tableau.specs.Entries.{Table}

-- the concept is a restriction by a role s that is not transitive, and p is a transitive role below s
abbrev pub propagates_by : RoleBox → Concept → ℕ → Bool
propagates_by H Nothing p = false
propagates_by H Everything p = false
propagates_by H (Name n) p = false
propagates_by H (Not a) p = false
propagates_by H (And a b) p = false
propagates_by H (Or a b) p = false
propagates_by H (Restriction q s a) p = not (H.transitive s) && (H.transitive p && H.below p s)

-- the same restriction by the role p; only restrictions are propagated
abbrev pub with_other_role : ℕ → Concept → Concept
with_other_role p Nothing = Nothing
with_other_role p Everything = Nothing
with_other_role p (Name n) = Nothing
with_other_role p (Not a) = Nothing
with_other_role p (And a b) = Nothing
with_other_role p (Or a b) = Nothing
with_other_role p (Restriction q s a) = Restriction q p a

-- which entry is propagated by which role
pub record Propagated : Type 0 where
  pub origin : ℕ
  pub role : ℕ

abbrev pub propagated_by : RoleBox → Book → ℕ → ℕ → List Propagated
propagated_by H K i p = cond (propagates_by H (K.concept i) p) (record { origin = i; role = p } ∷ []) []

-- by entry, and then by role
unfoldable pub propagated_list : RoleBox → Book → List Propagated
propagated_list H K = gather K.entries (λ i. gather H.count (propagated_by H K i))

-- what stands past the end of the list
abbrev pub nowhere : Propagated
nowhere = record { origin = 0; role = 0 }

-- where the rules start: after the concepts and the propagated restrictions
abbrev pub plain_of : RoleBox → Book → ℕ
plain_of H K = K.entries + length (propagated_list H K)

-- *book* is after the rules
abbrev pub book_entry : RoleBox → Book → ℕ
book_entry H K = plain_of H K + K.rules

-- *everywhere* is the last one
abbrev pub everywhere_entry : RoleBox → Book → ℕ
everywhere_entry H K = book_entry H K + 1

-- w, how many working entries there are
abbrev pub width_of : RoleBox → Book → ℕ
width_of H K = book_entry H K + 2

-- a propagated restriction as an entry
abbrev pub propagated_entry : Book → Propagated → Entry
propagated_entry K o = Plain (with_other_role o.role (K.concept o.origin))

abbrev pub rule_entry : Rule → Entry
rule_entry u = Inclusion u.premise u.conclusion

unfoldable pub entry_of : RoleBox → Book → ℕ → Entry
entry_of H K i =
    cond (nat_lt i K.entries) (Plain (K.concept i))
    (cond (nat_lt i (plain_of H K)) (propagated_entry K (slice_index_or (propagated_list H K) (i - K.entries) nowhere))
    (cond (nat_lt i (book_entry H K)) (rule_entry (K.rule (i - plain_of H K)))
    (cond (i == book_entry H K) (Inclusions (plain_of H K) K.rules)
    (cond (i == everywhere_entry H K) (Plain (Restriction Forall H.count (book_entry H K))) (Plain Nothing)))))

-- entry j is a propagated restriction of entry i
unfoldable pub propagates_of : RoleBox → Book → ℕ → ℕ → Bool
propagates_of H K i j =
    nat_le K.entries j && (nat_lt j (plain_of H K) && (get_or (propagated_list H K) (j - K.entries) nowhere).origin == i)

-- the table of a book under a hierarchy, whose universal role has the next number
abbrev pub table_of : RoleBox → Book → Table
table_of H K = record { width = width_of H K; plain = plain_of H K; entry = entry_of H K; propagates = propagates_of H K }

-- a seed with + book and + everywhere
abbrev pub rooted : RoleBox → Book → Label → Label
rooted H K s = put true (everywhere_entry H K) (put true (book_entry H K) s)

-- the seed of "a not b": + a, and - b; and of "a" alone
abbrev pub seed_of_not : ℕ → ℕ → Label
seed_of_not a b = put false b (put true a empty)

abbrev pub seed_of_one : ℕ → Label
seed_of_one a = put true a empty
