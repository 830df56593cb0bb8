-- The found world of a search that stands keeps the book, and its first individual satisfies the seed.
use Rattle.std.proofs.Common.{◌≡◌, ℕ, ◌+◌, ◌<◌, Bool, true, ◌&&◌, ltb, List, length, get_or, sym, refl, ap, ◌∙◌, subst, arith}
use Rattle.std.proofs.lemmas.Bool.{and_parts, and_from, lt-ltb}
use Rattle.meaning.specs.Worlds.{Interpretation, holds}
use Rattle.meaning.specs.Books.{Book, Keeps}
use Rattle.meaning.specs.Orders.{RoleBox}
use Rattle.meaning.specs.Universal.{with_universal}
use Rattle.meaning.specs.declared.Quantifier.TheVariants.{Forall}
use Rattle.meaning.proofs.Implying.{implied}
use Rattle.tableau.specs.declared.Label.{Label}
use Rattle.tableau.specs.declared.Entry.TheVariants.{Inclusion}
use Rattle.tableau.specs.Labels.{empty, in_label}
use Rattle.tableau.specs.Seeds.{obliged_at, seed_of, wants}
use Rattle.tableau.specs.Found.{found}
use Rattle.tableau.specs.Working.{plain_of, book_entry, everywhere_entry, width_of, entry_of, table_of, rooted}
use Rattle.tableau.specs.Promises.{Opens, Satisfies, Seed, found_world, Realised, SuccessIsRight}
use Rattle.tableau.specs.Saturation.{Holds, Saturates}
use Rattle.tableau.proofs.Meanings.{means, Meaning, holds_entry, entries_mean}
use Rattle.tableau.proofs.Obligations.{obliging_at}
use Rattle.tableau.proofs.Tables.{universal_ordered, universal_transitive, universal_top, universal_below, below_top, rule_entry_at, entry_book, entry_everywhere, rooted_book, rooted_everywhere, rooted_holds}
use Rattle.tableau.proofs.Tabling.{lower, tabled}
use Rattle.tableau.proofs.Agreeing.{holds_agree}
use Rattle.tableau.proofs.Totality.{concept_same}
use Rattle.tableau.proofs.Leaving.{Left, leaves}
use Rattle.tableau.proofs.Telling.{Restricting, seed_told, seed_travels}
use Rattle.tableau.proofs.Truth.{Sane, sane_low, follows, truth}

module _ (H : RoleBox) (K : Book) (P : Opens H K) where
  -- the label holds *book* and *everywhere*
  abbrev Ruled : Label → Type 0
  Ruled l = (in_label l true (book_entry H K) ≡ true) × (in_label l true (everywhere_entry H K) ≡ true)

  -- *everywhere* passes both on to every successor
  ruled_passed : (l : Label) (i r a : ℕ) (s : Bool) → i < width_of H K → obliged_at (table_of H K) l i ≡ wants r s a → Ruled l → Ruled (seed_of (with_universal H) (table_of H K) l r s a)
  ruled_passed l i r a s w e ruled =
      let U = with_universal H in
      let B = table_of H K in
      let k = obliging_at B l i r s a e in
      let inside = (tabled H K P).roles i r a k.quantifier w k.is in
      let c : Restricting U B l r true (everywhere_entry H K) Forall H.count (book_entry H K) =
      record { low = omega arith; held = ruled.1; is = entry_everywhere H K; every = refl; above = below_top H P.ordered P.few r inside } in (
        seed_told U B l r s a true (everywhere_entry H K) Forall H.count (book_entry H K) c,
        seed_travels U B l r s a true (everywhere_entry H K) Forall H.count (book_entry H K) c (universal_top H P.ordered P.few),
      )

  module _ (s : Label) (seed : Seed K s) (ls : List Label) (L : Left (with_universal H) (table_of H K) Ruled (rooted H K s) ls) where
    -- the found world with the universal role besides
    abbrev uncut : Interpretation
    uncut = found (with_universal H) (table_of H K) ls

    -- the meaning of the working entries in it
    abbrev meant : ℕ → ℕ → Bool
    meant = holds_entry uncut (entry_of H K)

    -- each entry means what it says
    means_it : Meaning uncut (entry_of H K) meant
    means_it = entries_mean uncut (entry_of H K) (lower H K P)

    -- what a label says is true of its node
    true_of : (x i : ℕ) (t : Bool) → x < length ls → i < width_of H K → Sane (plain_of H K) t i → in_label (get_or ls x empty) t i ≡ true → meant i x ≡ t
    true_of x i t =
        truth (with_universal H) (universal_ordered H P.ordered P.few) (table_of H K) (tabled H K P) ls L.standing meant means_it x i t

    -- a concept entry means in the found world what it means with the universal role besides
    found_concept : (i x : ℕ) → i < K.entries → holds (found_world H K ls) K.concept i x ≡ meant i x
    found_concept i x l =
        holds_agree H K P uncut (λ r y z. ltb r H.count && uncut.joins r y z) (λ r y z m. ap (λ b. b && uncut.joins r y z) (lt-ltb r H.count m)) i x l
        ∙ sym (concept_same H K P uncut i x l)

    -- every label holds every rule
    rule_in : (x k : ℕ) → x < length ls → k < K.rules → in_label (get_or ls x empty) true (plain_of H K + k) ≡ true
    rule_in x k l m =
        subst (λ e. Saturates e true (get_or ls x empty)) (entry_book H K)
        ((L.standing.full x l).saturated (book_entry H K) true (omega arith) (L.each x l).0) k m

    -- and so every rule is kept
    rules_kept : (k : ℕ) → k < K.rules → (x : ℕ) → x < length ls → holds (found_world H K ls) K.concept (K.rule k).premise x ≡ true
        → holds (found_world H K ls) K.concept (K.rule k).conclusion x ≡ true
    rules_kept k m x l h =
        let i = plain_of H K + k in
        let c = (K.rule k).premise in
        let d = (K.rule k).conclusion in
        let says : means uncut (Inclusion c d) meant x ≡ true =
        ap (λ e. means uncut e meant x) (sym (rule_entry_at H K k m)) ∙ sym (means_it i x) ∙ true_of x i true l (omega arith) tt (rule_in x k l m) in
        found_concept d x (P.sound.conclusions_in k m)
        ∙ implied (meant c x) (meant d x) says (sym (found_concept c x (P.sound.premises_in k m)) ∙ h)

    -- the found world keeps the book
    found_keeps : Keeps H K (found_world H K ls)
    found_keeps =
        let F = follows (with_universal H) (universal_ordered H P.ordered P.few) (table_of H K) ls in
        record {
          inhabited = L.some;
          inclusions = λ r t e x y l m j.
              and_from (ltb t H.count) (uncut.joins t x y) (lt-ltb t H.count (P.ordered.law.within r t e).1)
              (F.inclusions r t (universal_below H P.ordered P.few r t e) x y l m (and_parts (ltb r H.count) (uncut.joins r x y) j).1);
          transitivity = λ r e x y z l m o j k.
              and_from (ltb r H.count) (uncut.joins r x z) (lt-ltb r H.count (P.ordered.inside r e))
              (F.transitivity r (universal_transitive H P.ordered P.few r e) x y z l m o (and_parts (ltb r H.count) (uncut.joins r x y) j).1
              (and_parts (ltb r H.count) (uncut.joins r y z) k).1);
          rules = rules_kept;
        }

    -- the first label holds the seed
    root_in : Holds (get_or ls 0 empty) s
    root_in t i e = L.root t i (rooted_holds H K s t i e)

    -- its first individual satisfies the seed
    satisfied : Satisfies K (found_world H K ls) 0 s
    satisfied t i e =
        let l = seed t i e in
        found_concept i 0 l ∙ true_of 0 i t L.some (omega arith) (sane_low (plain_of H K) t i (omega arith)) (root_in t i e)

    -- all that success promises
    realised : Realised H K s ls
    realised = record { inhabited = L.some; keeps = found_keeps; satisfies = satisfied }

-- the labels that stand are left by the search, all of them ruled
pub success_is_right : SuccessIsRight
success_is_right H K P s seed n ls e =
    realised H K P s seed ls
    (leaves (with_universal H) (table_of H K) (lower H K P) (Ruled H K P) (λ l m h p. (h true (book_entry H K) p.0, h true (everywhere_entry H K) p.1))
    (ruled_passed H K P) n (rooted H K s) ls
    (rooted_book H K s, rooted_everywhere H K s) e)
