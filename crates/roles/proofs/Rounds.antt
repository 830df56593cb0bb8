-- Rounds over the pairs end at the set of what told inclusions lead to.
use Rattle.std.proofs.Common.{◌≡◌, ℕ, zero, suc, ◌+◌, ◌*◌, ◌/◌, ◌^◌, ◌<◌, ◌≤◌, true, false, List, [], length, get_or, drop, Decides, sym, refl, ap, ◌∙◌, subst, inr, ⊎_elim, add-one, arith}
use Rattle.std.specs.Simd.{first_chunks}
use Rattle.std.proofs.lemmas.List.{get_or-take, get_or-drop}
use lib.Bits.{bit_or}
use Rattle.std.proofs.lemmas.Nat.{le_or_l}
use Rattle.std.proofs.lemmas.Bool.{cases_eq, cond_both, cond-true, cond-false, or_cases, or_left, or_right, eqb-true, eq-eqb}
use Rattle.words.specs.Sets.{has}
use Rattle.words.proofs.Words.{has_or, has_single}
use Rattle.meaning.specs.Chains.{one}
use Rattle.meaning.proofs.Chains.{chain_join, chain_keeps}
use Rattle.roles.specs.Told.{told}
use Rattle.roles.specs.Closure.{Leads}
use Rattle.roles.specs.Rounds.{followed, round_to}
use Rattle.roles.proofs.Closures.{told_some, told_at}

-- the bytes taken two by two are the pairs
pair_byte : (n k i j : ℕ) (bytes : List ℕ) → k < n → i < 2 → j ≡ 2 * k + i → get_or (get_or (first_chunks 2 n bytes) k []) i 0 ≡ get_or bytes j 0
pair_byte zero k i j bytes l m e = absurd (omega arith)
pair_byte (suc n) zero i j bytes l m e = get_or-take 2 bytes i 0 m ∙ ap (λ x. get_or bytes x 0) (omega arith)
pair_byte (suc n) (suc k) i j bytes l m e =
    pair_byte n k i (2 * k + i) (drop 2 bytes) (omega arith) m refl ∙ get_or-drop 2 bytes (2 * k + i) 0 ∙ ap (λ x. get_or bytes x 0) (omega arith)

pub pair_at : (bytes : List ℕ) (pairs : List (List ℕ)) (k : ℕ) → pairs ≡ first_chunks 2 (length bytes / 2) bytes → k < length bytes / 2
    → (get_or (get_or pairs k []) 0 0 ≡ get_or bytes (2 * k) 0) × (get_or (get_or pairs k []) 1 0 ≡ get_or bytes (2 * k + 1) 0)
pair_at bytes pairs k e l = rw e (
  pair_byte (length bytes / 2) k 0 (2 * k) bytes l (omega arith) (omega arith),
  pair_byte (length bytes / 2) k 1 (2 * k + 1) bytes l (omega arith) refl,
)

followed_above : (pairs : List ℕ) (k set : ℕ) → set ≤ followed pairs k set
followed_above pairs k set =
    cond_both (has set (get_or pairs (2 * k) 0)) (bit_or set (2 ^ get_or pairs (2 * k + 1) 0)) set (λ w. set ≤ w)
    (λ _. le_or_l set (2 ^ get_or pairs (2 * k + 1) 0)) (λ _. omega arith)

-- one pair more: its upper role comes in, or the set stays
pub round_adds : (pairs : List ℕ) (k set found w : ℕ) → found ≡ round_to pairs k set → has found (get_or pairs (2 * k) 0) ≡ true
    → w ≡ bit_or found (2 ^ get_or pairs (2 * k + 1) 0) → w ≡ round_to pairs (k + 1) set
unfolding round_to
round_adds pairs k set found w e h v =
    rw add-one (v ∙ sym (cond-true (has found (get_or pairs (2 * k) 0)) (bit_or found (2 ^ get_or pairs (2 * k + 1) 0)) found h) ∙ ap (followed pairs k) e)

pub round_stays : (pairs : List ℕ) (k set found w : ℕ) → found ≡ round_to pairs k set → has found (get_or pairs (2 * k) 0) ≡ false
    → w ≡ found → w ≡ round_to pairs (k + 1) set
unfolding round_to
round_stays pairs k set found w e h v =
    rw add-one (v ∙ sym (cond-false (has found (get_or pairs (2 * k) 0)) (bit_or found (2 ^ get_or pairs (2 * k + 1) 0)) found h) ∙ ap (followed pairs k) e)

-- a round makes the word no smaller
pub round_above : (pairs : List ℕ) (k set : ℕ) → set ≤ round_to pairs k set
unfolding round_to
round_above pairs zero set = omega arith
round_above pairs (suc k) set = omega (arith, round_above pairs k set, followed_above pairs k (round_to pairs k set))

-- a round keeps what is in the set
pub round_keeps : (pairs : List ℕ) (k set s : ℕ) → has set s ≡ true → has (round_to pairs k set) s ≡ true
unfolding round_to
round_keeps pairs zero set s e = e
round_keeps pairs (suc k) set s e = go (round_to pairs k set) (round_keeps pairs k set s e)
  where
    go : (found : ℕ) → has found s ≡ true → has (followed pairs k found) s ≡ true
    go found h =
        let upper = get_or pairs (2 * k + 1) 0 in
        cond_both (has found (get_or pairs (2 * k) 0)) (bit_or found (2 ^ upper)) found (λ w. has w s ≡ true)
        (λ _. has_or found (2 ^ upper) s ∙ or_left (has found s) (has (2 ^ upper) s) h) (λ _. h)

-- a round stays within what told inclusions do not lead out of
pub round_in : (pairs : List ℕ) (P : ℕ → Type 0) → ((x y : ℕ) → told pairs x y ≡ true → P x → P y)
    → (k set : ℕ) → k ≤ length pairs / 2 → ((s : ℕ) → has set s ≡ true → P s) → (s : ℕ) → has (round_to pairs k set) s ≡ true → P s
unfolding round_to
round_in pairs P keep zero set l all s e = all s e
round_in pairs P keep (suc k) set l all s e =
    go (round_in pairs P keep k set (omega arith) all) s e
  where
    go : ((s : ℕ) → has (round_to pairs k set) s ≡ true → P s) → (s : ℕ) → has (followed pairs k (round_to pairs k set)) s ≡ true → P s
    go before s =
        let found = round_to pairs k set in
        let lower = get_or pairs (2 * k) 0 in
        let upper = get_or pairs (2 * k + 1) 0 in
        cond_both (has found lower) (bit_or found (2 ^ upper)) found (λ w. has w s ≡ true → P s)
        (λ h e. ⊎_elim
        (λ old. before s old)
        (λ new.
        let same : upper ≡ s = sym (eqb-true s upper (sym (has_single upper s) ∙ new)) in
        subst P same (keep lower upper (told_at pairs k (omega arith)) (before lower h)))
        (or_cases (has found s) (has (2 ^ upper) s) (sym (has_or found (2 ^ upper) s) ∙ e)))
        (λ h e. before s e)

-- a round that adds nothing: the first k pairs lead from members to members
pub round_calm : (pairs : List ℕ) (k set : ℕ) → round_to pairs k set ≡ set
    → (j : ℕ) → j < k → has set (get_or pairs (2 * j) 0) ≡ true → has set (get_or pairs (2 * j + 1) 0) ≡ true
unfolding round_to
round_calm pairs zero set e j l h = absurd (omega arith)
round_calm pairs (suc k) set e j l h =
    let same : round_to pairs k set ≡ set = omega (arith, e, round_above pairs k set, followed_above pairs k (round_to pairs k set)) in
    ⊎_elim
    (λ (last : j ≡ k). rw last (calm same (rw last at h)))
    (λ other. round_calm pairs k set same j (omega arith) h)
    (cases_eq j k)
  where
    calm : round_to pairs k set ≡ set → has set (get_or pairs (2 * k) 0) ≡ true → has set (get_or pairs (2 * k + 1) 0) ≡ true
    calm same h =
        let upper = get_or pairs (2 * k + 1) 0 in
        let at_set : followed pairs k set ≡ set = ap (followed pairs k) (sym same) ∙ e in
        let whole : bit_or set (2 ^ upper) ≡ set = sym (cond-true (has set (get_or pairs (2 * k) 0)) (bit_or set (2 ^ upper)) set h) ∙ at_set in
        ap (λ w. has w upper) (sym whole) ∙ has_or set (2 ^ upper) upper
        ∙ or_right (has set upper) (has (2 ^ upper) upper) (has_single upper upper ∙ eq-eqb upper upper refl)

pub leads_step : (pairs : List ℕ) (r x y : ℕ) → told pairs x y ≡ true → Leads pairs r x → Leads pairs r y
leads_step pairs r x y e h = ⊎_elim
    (λ (same : r ≡ x). inr (rw same (one x y e)))
    (λ c. inr (chain_join (told pairs) r x y c (one x y e)))
    h

-- a set with r in it, told inclusions lead from r to each member, and a round adds nothing: it is what they lead to
pub round_ends : (pairs : List ℕ) (r set : ℕ) → has set r ≡ true → ((s : ℕ) → has set s ≡ true → Leads pairs r s)
    → round_to pairs (length pairs / 2) set ≡ set → (s : ℕ) → Decides (has set s) (Leads pairs r s)
round_ends pairs r set start sound calm s = (sound s, from)
  where
    keeps : (x y : ℕ) → told pairs x y ≡ true → has set x ≡ true → has set y ≡ true
    keeps x y e h =
        let a = told_some pairs x y e in
        let lower : has set (get_or pairs (2 * a.0) 0) ≡ true = subst (λ j. has set j ≡ true) (sym a.2) h in
        subst (λ j. has set j ≡ true) a.3 (round_calm pairs (length pairs / 2) set calm a.0 a.1 lower)

    from : Leads pairs r s → has set s ≡ true
    from h = ⊎_elim
        (λ (same : r ≡ s). rw same at start)
        (λ c. chain_keeps (told pairs) (λ x. has set x ≡ true) keeps r s c start)
        h
