-- What an ask and a show come to, on classes that are kept.
use Rattle.std.proofs.Common.{◌≡◌, ℕ, zero, suc, ◌<◌, ◌≤◌, Bool, true, false, not, eqb, leb, ◌⊎◌, List, length, refl, ap, inl, inr, ⊎_elim, arith}
use Rattle.std.proofs.lemmas.Bool.{cases_Bool, cond_both, not-false, leb-true, eqb-true, both_ways}
use Rattle.denial.specs.declared.Report.{Report}
use Rattle.meaning.specs.Orders.{RoleBox}
use Rattle.meaning.specs.Books.{Book}
use Rattle.tableau.specs.declared.Label.{Label}
use Rattle.tableau.specs.Search.{Outcome, failed, full, stands}
use Rattle.tableau.specs.Promises.{Opens, found_world}
use Rattle.sheet.specs.Sheets.{needed}
use Rattle.drawing.specs.Drawings.{drawn_on}
use Rattle.runs.specs.Setups.{setup, apart}
use Rattle.runs.specs.Steps.{Reply, class, said, shown, refused, refusal, given, told_ask, asking, Showed, showed_world, showed_second, showed_first, showing, ask_step, show_step}
use Rattle.runs.proofs.Searching.{member, Apart, Under, apart_failed, apart_stood, apart_full}
use Rattle.runs.proofs.Filing.{next_cases, Kept, RefusedRight}

-- what an answer says of the classes
pub record SaidRight (H : RoleBox) (K : Book) (cs : List ℕ) (a b : ℕ) (s : Bool) : Type 0 where
  pub first_given : given cs a ≡ true
  pub second_given : given cs b ≡ true
  pub yes_right : s ≡ true → Under H K cs a b
  pub no_right : s ≡ false → Under H K cs a b → ⊥

abbrev pub AskRight : RoleBox → Book → List ℕ → ℕ → ℕ → ℕ → Reply → Type 0
AskRight H K cs a b n (class p) = ⊥
AskRight H K cs a b n (said s) = SaidRight H K cs a b s
AskRight H K cs a b n (shown m side) = ⊥
AskRight H K cs a b n (refused r) = RefusedRight H K n r

-- a world that was shown is a found one, written on the words, with its individual 0 on the side answered
pub record ShownAt (H : RoleBox) (K : Book) (cs : List ℕ) (a b : ℕ) (words : List ℕ) (m side : ℕ) (sheet : List ℕ) : Type 0 where
  pub first_given : given cs a ≡ true
  pub second_given : given cs b ≡ true
  pub labels : List Label
  pub many : m ≡ length labels
  pub some : 0 < length labels
  pub few : length labels ≤ 64
  pub fits : leb (needed H.count (length labels)) (length words) ≡ true
  pub drawn : sheet ≡ drawn_on H.count (found_world H K labels) words
  pub sides : ((side ≡ 1) × Apart H K cs a b (found_world H K labels)) ⊎ ((side ≡ 2) × Apart H K cs b a (found_world H K labels))

pub record UnshownRight (H : RoleBox) (K : Book) (a b n : ℕ) (r : Report) : Type 0 where
  pub room : RefusedRight H K n r
  pub equal : r.number ≡ 16 → a ≡ b

abbrev pub ShowRight : RoleBox → Book → List ℕ → ℕ → ℕ → ℕ → List ℕ → Reply → List ℕ → Type 0
ShowRight H K cs a b n words (class p) sheet = ⊥
ShowRight H K cs a b n words (said s) sheet = ⊥
ShowRight H K cs a b n words (shown m side) sheet = ShownAt H K cs a b words m side sheet
ShowRight H K cs a b n words (refused r) sheet = (sheet ≡ words) × UnshownRight H K a b n r

abbrev pub ShowedRight : RoleBox → Book → List ℕ → ℕ → ℕ → ℕ → List ℕ → Showed → Type 0
ShowedRight H K cs a b n words s = ShowRight H K cs a b n words s.reply s.sheet

module _ (H : RoleBox) (K : Book) (P : Opens H K) (cs : List ℕ) (kept : Kept H K cs) (n : ℕ) where
  -- a refusal by another number than 15 and 16
  otherwise : (number detail a b : ℕ) (words : List ℕ) → (number ≡ 15 → ⊥) → (number ≡ 16 → ⊥) → ShowRight H K cs a b n words (refusal number detail) words
  otherwise number detail a b words x y = (refl, record { room = record { room = λ e r. x e }; equal = λ e. absurd (y e) })

  module _ (a b : ℕ) (g : given cs a ≡ true) (h : given cs b ≡ true) where
    -- yes where the search failed, no where it stands
    told_right : (o : Outcome) → apart (setup H K) cs a b n ≡ o → AskRight H K cs a b n (told_ask a o)
    told_right failed e = record {
      first_given = g;
      second_given = h;
      yes_right = λ s W keeps x l i. ⊎_elim
          (λ t. t)
          (λ f. absurd (apart_failed H K P cs kept.named a b n g h e W keeps x l i f))
          (cases_Bool (member K cs W b x));
      no_right = λ s. absurd (let z : ◌≡◌ {A = ℕ} 0 1 = cc in omega arith);
    }
    told_right full e = record { room = λ x r. apart_full H K P cs kept.named a b n g h r e }
    told_right (stands ls) e = record {
      first_given = g;
      second_given = h;
      yes_right = λ s. absurd (let z : ◌≡◌ {A = ℕ} 0 1 = cc in omega arith);
      no_right = λ s u.
          let r = apart_stood H K P cs kept.named a b n g h ls e in
          both_ways (member K cs (found_world H K ls) b 0) r.0.outside (u (found_world H K ls) r.0.keeps 0 r.1 r.0.inside);
    }

  asking_right : (a b : ℕ) → given cs a ≡ true → given cs b ≡ true → AskRight H K cs a b n (asking (setup H K) cs a b n)
  unfolding asking
  asking_right zero b g h = record {
    first_given = g;
    second_given = h;
    yes_right = λ s W keeps x l i. absurd (let z : ◌≡◌ {A = ℕ} 0 1 = cc in omega arith);
    no_right = λ s. absurd (let z : ◌≡◌ {A = ℕ} 0 1 = cc in omega arith);
  }
  asking_right (suc a) zero g h = record {
    first_given = g;
    second_given = h;
    yes_right = λ s. absurd (let z : ◌≡◌ {A = ℕ} 0 1 = cc in omega arith);
    no_right = λ s u.
        let i = kept.some a (omega (arith, leb-true (suc a) (length cs) g)) in
        let f = u i.world i.keeps i.individual i.there i.inside in
        let z : ◌≡◌ {A = ℕ} 0 1 = cc in omega arith;
  }
  asking_right (suc a) (suc b) g h = told_right (suc a) (suc b) g h (apart (setup H K) cs (suc a) (suc b) n) refl

  pub ask_right : (a b : ℕ) → AskRight H K cs a b n (ask_step (setup H K) cs a b n)
  ask_right a b =
      next_cases (AskRight H K cs a b n) (not (given cs a)) _ _
      (λ t. record { room = λ x r. omega arith })
      (λ t. next_cases (AskRight H K cs a b n) (not (given cs b)) _ _
      (λ u. record { room = λ x r. omega arith })
      (λ u. asking_right a b (not-false (given cs a) t) (not-false (given cs b) u)))

  -- two class numbers, neither of which is apart from the other, are equal
  both_failed : (a b : ℕ) → given cs a ≡ true → given cs b ≡ true → apart (setup H K) cs a b n ≡ failed → apart (setup H K) cs b a n ≡ failed → a ≡ b
  both_failed zero zero g h e f = refl
  both_failed zero (suc b) g h e f =
      let i = kept.some b (omega (arith, leb-true (suc b) (length cs) h)) in
      absurd (apart_failed H K P cs kept.named (suc b) zero n h g f i.world i.keeps i.individual i.there i.inside refl)
  both_failed (suc a) zero g h e f =
      let i = kept.some a (omega (arith, leb-true (suc a) (length cs) g)) in
      absurd (apart_failed H K P cs kept.named (suc a) zero n g h e i.world i.keeps i.individual i.there i.inside refl)
  both_failed (suc a) (suc b) g h e f =
      ap suc (kept.different a b (omega (arith, leb-true (suc a) (length cs) g)) (omega (arith, leb-true (suc b) (length cs) h)) (
        (λ s. apart_failed H K P cs kept.named (suc a) (suc b) n g h e s.world s.keeps s.individual s.there s.inside s.outside),
        (λ s. apart_failed H K P cs kept.named (suc b) (suc a) n h g f s.world s.keeps s.individual s.there s.inside s.outside),
      ))

  module _ (a b : ℕ) (words : List ℕ) (g : given cs a ≡ true) (h : given cs b ≡ true) where
    -- the found world of one side
    world_right : (side : ℕ) (ls : List Label) → 0 < length ls
        → ((side ≡ 1) × Apart H K cs a b (found_world H K ls)) ⊎ ((side ≡ 2) × Apart H K cs b a (found_world H K ls))
        → ShowedRight H K cs a b n words (showed_world (setup H K) words side ls)
    world_right side ls some sides =
        cond_both (leb (length ls) 64) _ _ (ShowedRight H K cs a b n words)
        (λ s. cond_both (leb (needed H.count (length ls)) (length words)) _ _ (ShowedRight H K cs a b n words)
        (λ t. record {
          first_given = g;
          second_given = h;
          labels = ls;
          many = refl;
          some = some;
          few = leb-true (length ls) 64 s;
          fits = t;
          drawn = refl;
          sides = sides;
        })
        (λ t. otherwise 11 (needed H.count (length ls)) a b words (λ e. omega arith) (λ e. omega arith)))
        (λ s. otherwise 17 (length ls) a b words (λ e. omega arith) (λ e. omega arith))

    second_right : apart (setup H K) cs a b n ≡ failed → (o : Outcome) → apart (setup H K) cs b a n ≡ o → ShowedRight H K cs a b n words (showed_second (setup H K) a words o)
    second_right e failed f = (refl, record { room = record { room = λ x r. omega arith }; equal = λ x. both_failed a b g h e f })
    second_right e full f = (refl, record { room = record { room = λ x r. apart_full H K P cs kept.named b a n h g r f }; equal = λ x. absurd (omega arith) })
    second_right e (stands ls) f =
        let r = apart_stood H K P cs kept.named b a n h g ls f in
        world_right 2 ls r.1 (inr (refl, r.0))

    first_right : (o : Outcome) → apart (setup H K) cs a b n ≡ o → ShowedRight H K cs a b n words (showed_first (setup H K) a words o (λ u. apart (setup H K) cs b a n))
    first_right failed e = second_right e (apart (setup H K) cs b a n) refl
    first_right full e = (refl, record { room = record { room = λ x r. apart_full H K P cs kept.named a b n g h r e }; equal = λ x. absurd (omega arith) })
    first_right (stands ls) e =
        let r = apart_stood H K P cs kept.named a b n g h ls e in
        world_right 1 ls r.1 (inl (refl, r.0))

    showing_right : ShowedRight H K cs a b n words (showing (setup H K) cs a b n words)
    unfolding showing
    showing_right = first_right (apart (setup H K) cs a b n) refl

  pub show_right : (a b : ℕ) (words : List ℕ) → ShowedRight H K cs a b n words (show_step (setup H K) cs a b n words)
  show_right a b words =
      next_cases (ShowedRight H K cs a b n words) (not (given cs a)) _ _
      (λ t. otherwise 9 a a b words (λ e. omega arith) (λ e. omega arith))
      (λ t. next_cases (ShowedRight H K cs a b n words) (not (given cs b)) _ _
      (λ u. otherwise 9 b a b words (λ e. omega arith) (λ e. omega arith))
      (λ u. next_cases (ShowedRight H K cs a b n words) (eqb a b) _ _
      (λ v. (refl, record { room = record { room = λ x r. omega arith }; equal = λ x. eqb-true a b v }))
      (λ v. showing_right a b words (not-false (given cs a) t) (not-false (given cs b) u))))
