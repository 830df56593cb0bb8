-- The theorems about the search, put together.
use Rattle.std.proofs.Common.{◌≡◌, ℕ, ◌^◌, ◌<◌, ◌≤◌, true, false, List, [], sym, refl, ap, ◌∙◌, ⊎_elim, arith}
use Rattle.std.proofs.lemmas.Bool.{cases_Bool, both_ways}
use Rattle.meaning.specs.Worlds.{Interpretation, holds}
use Rattle.meaning.specs.Books.{Book}
use Rattle.meaning.specs.Orders.{RoleBox}
use Rattle.meaning.specs.Universal.{with_universal}
use Rattle.tableau.specs.declared.Label.{Label}
use Rattle.tableau.specs.Labels.{empty, put}
use Rattle.tableau.specs.Search.{Outcome, failed, full, stands}
use Rattle.tableau.specs.Working.{everywhere_entry, width_of, table_of, rooted, seed_of_not, seed_of_one}
use Rattle.tableau.specs.Promises.{Opens, Satisfies, Seed, search_from, FailureIsRight, Realised, RoomSuffices, StandingLabelsDiffer, FullIsRight, EdgesAreThoseChosen, SearchDecides}
use Rattle.tableau.proofs.Labelling.{in_empty, put_in, put_keeps, put_cases}
use Rattle.tableau.proofs.Tables.{rooted_everywhere, rooted_cases}
use Rattle.tableau.proofs.Tabling.{lower, tabled}
use Rattle.tableau.proofs.Totality.{with_total, worked, worked_means, follows, root_satisfied}
use Rattle.tableau.proofs.Failing.{failure}
use Rattle.tableau.proofs.Succeeding.{success_is_right}
use Rattle.tableau.proofs.Choosing.{edge_stays, edges_met, root_ends}
use Rattle.tableau.proofs.Room.{Narrow, Holding, roomy, always_distinct, always_within}
use Rattle.tableau.proofs.Refusing.{full_wanted, wanted_full}

-- a failed search is one for the world with the universal role too
pub failure_is_right : FailureIsRight
failure_is_right H K P s seed n e W keeps x l sat =
    failure (with_universal H) (table_of H K) (tabled H K P) n n [] (rooted H K s) e
    (with_total H.count W) (follows H K P W keeps) (worked H K P W) (worked_means H K P W) x l (root_satisfied H K P W keeps s seed x l sat)

-- the root seed holds working entries alone, and holds some
root_narrow : (H : RoleBox) (K : Book) (s : Label) → Seed K s → Narrow (width_of H K) (rooted H K s)
root_narrow H K s seed t i e = ⊎_elim (λ ruled. omega (arith, ruled.1)) (λ g. omega (arith, seed t i g)) (rooted_cases H K s t i e)

root_holding : (H : RoleBox) (K : Book) (s : Label) → Holding (rooted H K s)
root_holding H K s = (true, everywhere_entry H K, rooted_everywhere H K s)

-- the room of the root's search
pub room_suffices : RoomSuffices
room_suffices H K P s seed n room e = roomy (with_universal H) (table_of H K) (lower H K P) n room (rooted H K s) (root_narrow H K s seed) (root_holding H K s) e

-- the moments of the root's search
pub standing_labels_differ : StandingLabelsDiffer
standing_labels_differ H K P s seed n = record {
  distinct = always_distinct (with_universal H) (table_of H K) (lower H K P) n (rooted H K s) (root_narrow H K s seed) (root_holding H K s);
  within = always_within (with_universal H) (table_of H K) (lower H K P) n (rooted H K s) (root_narrow H K s seed) (root_holding H K s);
  ends = root_ends (with_universal H) (table_of H K) (lower H K P) n (rooted H K s);
}

-- where it is full
pub full_is_right : FullIsRight
full_is_right H K P s seed n = (
  full_wanted (with_universal H) (table_of H K) (lower H K P) n (rooted H K s) (root_narrow H K s seed) (root_holding H K s),
  wanted_full (with_universal H) (table_of H K) (lower H K P) n (rooted H K s) (root_narrow H K s seed) (root_holding H K s),
)

-- and its edges
pub edges_are_those_chosen : EdgesAreThoseChosen
edges_are_those_chosen H K P s seed n = record {
  stay = λ k r a t l st ms more e. edge_stays (with_universal H) (table_of H K) (lower H K P) n k l r t a st ms more e;
  met = edges_met (with_universal H) (table_of H K) (lower H K P) n (rooted H K s);
}

-- the seeds of the two questions are of concept entries
pub seed_not_fits : (K : Book) (a b : ℕ) → a < K.entries → b < K.entries → Seed K (seed_of_not a b)
seed_not_fits K a b l m t i e = ⊎_elim
    (λ both. let same = both.1 in omega arith)
    (λ h. ⊎_elim (λ both. let same = both.1 in omega arith) (in_empty t i) (put_cases true a empty t i h))
    (put_cases false b (put true a empty) t i e)

pub seed_one_fits : (K : Book) (a : ℕ) → a < K.entries → Seed K (seed_of_one a)
seed_one_fits K a l t i e = ⊎_elim (λ both. let same = both.1 in omega arith) (in_empty t i) (put_cases true a empty t i e)

module _ (K : Book) (W : Interpretation) (x a : ℕ) where
  -- and an individual that is in a, or in a and outside b, satisfies them
  pub satisfies_one : holds W K.concept a x ≡ true → Satisfies K W x (seed_of_one a)
  satisfies_one h t i e = ⊎_elim (λ both. ap (λ j. holds W K.concept j x) both.1 ∙ h ∙ sym both.0) (in_empty t i) (put_cases true a empty t i e)

  pub satisfies_not : (b : ℕ) → holds W K.concept a x ≡ true → holds W K.concept b x ≡ false → Satisfies K W x (seed_of_not a b)
  satisfies_not b h g t i e = ⊎_elim
      (λ both. ap (λ j. holds W K.concept j x) both.1 ∙ g ∙ sym both.0)
      (satisfies_one h t i)
      (put_cases false b (put true a empty) t i e)

-- with room enough, a search that has no world fails
fails_for_want : (H : RoleBox) (K : Book) → Opens H K → (s : Label) → Seed K s → (n : ℕ) → 3 ^ width_of H K ≤ n
    → ((ls : List Label) → Realised H K s ls → ⊥) → search_from H K s n ≡ failed
fails_for_want H K P s seed n room none = go (search_from H K s n) refl
  where
    go : (o : Outcome) → search_from H K s n ≡ o → o ≡ failed
    go failed e = refl
    go full e = absurd (room_suffices H K P s seed n room e)
    go (stands ls) e = absurd (none ls (success_is_right H K P s seed n ls e))

-- each way of the decision is failure or success being right
pub search_decides : SearchDecides
search_decides H K P n room = record {
  not_fails = λ a b l m. (
    λ e W keeps x i h. ⊎_elim
        (λ g. g)
        (λ g. absurd (failure_is_right H K P (seed_of_not a b) (seed_not_fits K a b l m) n e W keeps x i (satisfies_not K W x a b h g)))
        (cases_Bool (holds W K.concept b x)),
    λ sub. fails_for_want H K P (seed_of_not a b) (seed_not_fits K a b l m) n room
        (λ ls r. both_ways _ (r.satisfies false b (put_in false b (put true a empty)))
        (sub _ r.keeps 0 r.inhabited (r.satisfies true a (put_keeps false b (put true a empty) true a (put_in true a empty))))),
  );
  one_fails = λ a l. (
    λ e W keeps x i h. failure_is_right H K P (seed_of_one a) (seed_one_fits K a l) n e W keeps x i (satisfies_one K W x a h),
    λ none. fails_for_want H K P (seed_of_one a) (seed_one_fits K a l) n room
        (λ ls r. none _ r.keeps 0 r.inhabited (r.satisfies true a (put_in true a empty))),
  );
}
