-- What was read is sound, and where a register is opened on it, what the theorems about the search ask for holds.
use Rattle.std.proofs.Common.{◌≡◌, ℕ, ◌+◌, ◌*◌, ◌/◌, ◌≤◌, true, not, ◌&&◌, List, length, is_some, drop, Some, None, Option, refl, sym, subst, arith}
use Rattle.std.proofs.lemmas.List.{length-take-le, length-drop}
use Rattle.denial.specs.declared.Report.{Report}
use Rattle.denial.specs.Denials.{Answer, granted, denied, and_then}
use Rattle.meaning.specs.Books.{Sound}
use Rattle.book.specs.declared.trailer.Layout.{Layout}
use Rattle.book.specs.Sections.{Sections, says}
use Rattle.book.specs.Records.{lowest_bad_role, lowest_unfit, lowest_bad_concept, faultless}
use Rattle.book.specs.Layouts.{laying, unless_bad, Laid}
use Rattle.book.specs.Reading.{cut, sections_of, checking, reading}
use Rattle.book.proofs.Layouting.{laid_from}
use Rattle.book.proofs.Soundness.{good, sound}
use Rattle.roles.specs.Laws.{closure_law, marked_inside}
use Rattle.roles.specs.Hierarchies.{roles_of}
use Rattle.tableau.specs.Promises.{Opens}
use Rattle.plan.specs.Building.{verdict}
use Rattle.plan.proofs.Building.{verdict_opens}

-- sections that were checked have no bad record
checked : (l : Layout) (s t : Sections) → checking l s ≡ granted t → (s ≡ t) × (faultless s.roles s.pairs s.concepts s.rules ≡ true)
unfolding checking faultless
checked l s t e =
    go _ _ _ _ (lowest_bad_role s.roles) (lowest_unfit (length s.roles) s.pairs) (lowest_bad_concept (length s.roles) s.concepts) (lowest_unfit (length s.concepts / 4) s.rules) e
  where
    go : (p q u v : ℕ → Report) (a b c d : Option ℕ) → unless_bad a p (unless_bad b q (unless_bad c u (unless_bad d v (granted s)))) ≡ granted t
        → (s ≡ t) × ((not (is_some a) && (not (is_some b) && (not (is_some c) && not (is_some d)))) ≡ true)
    go p q u v None None None None f = (cc, refl)
    go p q u v (Some k) b c d f = absurd (let z : ◌≡◌ {A = ℕ} 0 1 = cc in omega arith)
    go p q u v None (Some k) c d f = absurd (let z : ◌≡◌ {A = ℕ} 0 1 = cc in omega arith)
    go p q u v None None (Some k) d f = absurd (let z : ◌≡◌ {A = ℕ} 0 1 = cc in omega arith)
    go p q u v None None None (Some k) f = absurd (let z : ◌≡◌ {A = ℕ} 0 1 = cc in omega arith)

-- a part that lies in the bytes has its length
length-cut : (bytes : List ℕ) (place size : ℕ) → place + size ≤ length bytes → length (cut bytes place size) ≡ size
length-cut bytes place size l = length-take-le size (drop place bytes) (omega (arith, length-drop place bytes))

pub reading_sound : (bytes : List ℕ) (s : Sections) → reading bytes ≡ granted s → Sound (says s)
unfolding reading
reading_sound bytes s e = by_laying (laying bytes) refl e
  where
    by_laying : (a : Answer Layout) → laying bytes ≡ a → and_then a (λ l. checking l (sections_of bytes l)) ≡ granted s → Sound (says s)
    by_laying (granted l) f g =
        let c = checked l (sections_of bytes l) s g in
        let h = laid_from bytes l f in
        let laid : Laid (length bytes) l = subst (Laid (length bytes)) (sym h.0) h.1 in
        let roles = length-cut bytes l.roles.place l.roles.count (omega (arith, laid.roles_end, laid.pairs_end, laid.concepts_end, laid.rules_end)) in
        let concepts = length-cut bytes l.concepts.place (4 * l.concepts.count) (omega (arith, laid.concepts_end, laid.rules_end)) in
        let rules = length-cut bytes l.rules.place (2 * l.rules.count) (omega (arith, laid.rules_end)) in
        let x = sections_of bytes l in
        subst (λ t. Sound (says t)) c.0
        (sound x.roles x.pairs x.concepts x.rules (good x.roles x.pairs x.concepts x.rules c.1)
        (omega (arith, concepts)) (omega (arith, roles, laid.few_roles)) (omega (arith, concepts, laid.some_concepts))
        (omega (arith, concepts, laid.few_concepts)) (omega (arith, rules, laid.few_rules)))
    by_laying (denied r) f g = absurd (let z : ◌≡◌ {A = ℕ} 0 1 = cc in omega arith)

pub opens : (bytes : List ℕ) (s : Sections) → reading bytes ≡ granted s → verdict (roles_of s) (says s) ≡ granted tt → Opens (roles_of s) (says s)
opens bytes s e v =
    let h = reading_sound bytes s e in
    let n = length s.roles in
    (verdict_opens (roles_of s) (says s) (record {
      law = closure_law n s.pairs h.few_roles;
      inside = marked_inside s.roles;
    }) h).0 v
