-- What the relation of two entries means: from the theorem over all runs.
use Rattle.std.proofs.Common.{◌≡◌, ℕ, ◌<◌, ◌≤◌, Bool, true, false, List, [], ◌∷◌, length, get_or, sym, refl, ap, ◌∙◌, subst, inl, inr, ⊎_elim, arith}
use Rattle.std.proofs.lemmas.Bool.{cases_Bool}
use Rattle.denial.specs.Denials.{granted, and_then}
use Rattle.meaning.specs.Worlds.{Interpretation, holds}
use Rattle.meaning.specs.Orders.{RoleBox}
use Rattle.meaning.specs.Books.{Book, Keeps}
use Rattle.tableau.specs.Promises.{Opens, Subsumed}
use Rattle.runs.specs.Setups.{setup}
use Rattle.runs.specs.Steps.{Call, file, ask, Reply, class, said, shown, refused, Done, step, file_step}
use Rattle.runs.specs.Runs.{Event, history, Gave, of_class, Separated, Inseparable, Within, Right}
use Rattle.runs.proofs.Searching.{member}
use Rattle.runs.proofs.Filing.{kept_none, Belongs, FiledRight, FileRight, file_right}
use Rattle.runs.proofs.Classes.{belongs_more}
use Rattle.runs.proofs.Running.{final, moment, class_members}
use Rattle.runs.proofs.Rightness.{runs_by_calls, every_run_is_right}
use Rattle.host.specs.declared.relation.Relation.{Relation}
use Rattle.host.specs.Relations.{related_by, given, told, compared_by, filed_by}
use Rattle.host.specs.Meanings.{Means}

module _ (H : RoleBox) (K : Book) where
  -- inseparable entries have the same individuals in a world that keeps the book
  same_individuals : (a b : ℕ) → Inseparable H K a b → (W : Interpretation) → Keeps H K W → (x : ℕ) → x < W.size
      → holds W K.concept b x ≡ holds W K.concept a x
  same_individuals a b s W keeps x l = ⊎_elim
      (λ i. ⊎_elim
      (λ j. j ∙ sym i)
      (λ j. absurd (s.0 (record { world = W; keeps = keeps; individual = x; there = l; inside = i; outside = j })))
      (cases_Bool (holds W K.concept b x)))
      (λ i. ⊎_elim
      (λ j. absurd (s.1 (record { world = W; keeps = keeps; individual = x; there = l; inside = j; outside = i })))
      (λ j. j ∙ sym i)
      (cases_Bool (holds W K.concept b x)))
      (cases_Bool (holds W K.concept a x))

  -- The individuals of the class to which an entry belongs are those of the entry: class 0 and the entry have none, and from
  -- the entry by which another class stands it is inseparable.
  belonging : (cs : List ℕ) (e p : ℕ) → Belongs H K cs e p → (W : Interpretation) → Keeps H K W → (x : ℕ) → x < W.size
      → member K cs W p x ≡ holds W K.concept e x
  belonging cs e p (inl none) W keeps x l = ⊎_elim
      (λ i. absurd (none.1 (record { world = W; keeps = keeps; individual = x; there = l; inside = i })))
      (λ i. ap (λ q. member K cs W q x) none.0 ∙ sym i)
      (cases_Bool (holds W K.concept e x))
  belonging cs e p (inr some) W keeps x l =
      ap (λ q. member K cs W q x) some.1 ∙ same_individuals e (get_or cs some.0 0) some.3 W keeps x l

  -- a class number that an entry belongs to is that of a class that there is
  belongs_given : (cs : List ℕ) (e p : ℕ) → Belongs H K cs e p → p ≤ length cs
  belongs_given cs e p (inl none) = omega (arith, none.0)
  belongs_given cs e p (inr some) = omega (arith, some.1, some.2)

  -- entries each of which is put into the other are inseparable
  both_subsumed : (a b : ℕ) → Subsumed H K a b → Subsumed H K b a → Inseparable H K a b
  both_subsumed a b f g = (one a b f, one b a g)
    where
      one : (a b : ℕ) → Subsumed H K a b → Separated H K a b → ⊥
      one a b f s =
          let t : true ≡ false = sym (f s.world s.keeps s.individual s.there s.inside) ∙ s.outside in
          let z : ◌≡◌ {A = ℕ} 0 1 = cc in omega arith

  module _ (P : Opens H K) where
    module _ (calls : List Call) where
      abbrev run : List Event
      run = history (setup H K) [] calls

      -- In every run, the individuals of the class that file gave for an entry are those of the entry.
      of_entry : (e p : ℕ) → Gave run e p → (W : Interpretation) → Keeps H K W → (x : ℕ) → x < W.size
          → of_class K run W p x ≡ holds W K.concept e x
      of_entry e p g W keeps x l =
          let last = final (setup H K) [] calls in
          let m = moment H K P [] (kept_none H K) calls (file e g.nodes) g.done g.came in
          let s = file_step (setup H K) m.classes e g.nodes in
          let r : s.reply ≡ class p = ap (λ d. d.reply) m.is ∙ g.replied in
          let f : FiledRight H K m.classes e p s.classes =
          subst (λ x. FileRight H K m.classes e g.nodes x s.classes) r (file_right H K P m.classes m.kept e g.nodes) in
          let b = belongs_more H K s.classes last m.after e p f.belongs in
          class_members H K P calls W p x (belongs_given last e p b) ∙ belonging last e p b W keeps x l

      -- so one such class is within another exactly where one entry is put into the other
      within_entries : (e f p q : ℕ) → Gave run e p → Gave run f q → Within H K run p q → Subsumed H K e f
      within_entries e f p q g h w W keeps x l i = sym (of_entry f q h W keeps x l) ∙ w W keeps x l (of_entry e p g W keeps x l ∙ i)

      entries_within : (e f p q : ℕ) → Gave run e p → Gave run f q → Subsumed H K e f → Within H K run p q
      entries_within e f p q g h w W keeps x l i = of_entry f q h W keeps x l ∙ w W keeps x l (sym (of_entry e p g W keeps x l) ∙ i)

    module _ (n first second : ℕ) where
      abbrev one : Done
      one = step (setup H K) [] (file first n)

      abbrev two : Done
      two = step (setup H K) one.classes (file second n)

      module _ (p q : ℕ) (gave-first : one.reply ≡ class p) (gave-second : two.reply ≡ class q) where
        -- the run that the four calls are
        abbrev four : List Call
        four = file first n ∷ file second n ∷ ask p q n ∷ ask q p n ∷ []

        right : Right H K (run four)
        right = every_run_is_right H K P (run four) (runs_by_calls.history_runs (setup H K) [] four)

        first_gave : Gave (run four) first p
        unfolding history
        first_gave = record { nodes = n; done = one; came = inl refl; replied = gave-first }

        second_gave : Gave (run four) second q
        unfolding history
        second_gave = record { nodes = n; done = two; came = inr (inl refl); replied = gave-second }

        abbrev asked : ℕ → ℕ → Reply
        asked a b = (step (setup H K) two.classes (ask a b n)).reply

        -- what the two asks say of the entries
        there_yes : asked p q ≡ said true → Subsumed H K first second
        unfolding history
        there_yes e = within_entries four first second p q first_gave second_gave (right.yes_means_within p q n _ (inr (inr (inl refl))) e)

        there_no : asked p q ≡ said false → Subsumed H K first second → ⊥
        unfolding history
        there_no e s = right.no_means_not_within p q n _ (inr (inr (inl refl))) e (entries_within four first second p q first_gave second_gave s)

        back_yes : asked q p ≡ said true → Subsumed H K second first
        unfolding history
        back_yes e = within_entries four second first q p second_gave first_gave (right.yes_means_within q p n _ (inr (inr (inr (inl refl)))) e)

        back_no : asked q p ≡ said false → Subsumed H K second first → ⊥
        unfolding history
        back_no e s = right.no_means_not_within q p n _ (inr (inr (inr (inl refl)))) e (entries_within four second first q p second_gave first_gave s)

        by_answers : (b c : Bool) → asked p q ≡ said b → asked q p ≡ said c → Means H K first second (related_by b c)
        by_answers true true e f = both_subsumed first second (there_yes e) (back_yes f)
        by_answers true false e f = (there_yes e, back_no f)
        by_answers false true e f = (back_yes f, there_no e)
        by_answers false false e f = (there_no e, back_no f)

      -- From here on the replies are gone through in the order of the calls; a refusal leads to no relation.
      module _ (x : Relation) where
        by_second_ask : (p q : ℕ) → one.reply ≡ class p → two.reply ≡ class q → (b : Bool) → (step (setup H K) two.classes (ask p q n)).reply ≡ said b
            → (r : Reply) → (step (setup H K) two.classes (ask q p n)).reply ≡ r
            → and_then (told r) (λ around. granted (related_by b around)) ≡ granted x → Means H K first second x
        by_second_ask p q e f b g (class k) h is = absurd (let z : ◌≡◌ {A = ℕ} 0 1 = cc in omega arith)
        by_second_ask p q e f b g (said c) h is =
            let same : related_by b c ≡ x = cc in subst (Means H K first second) same (by_answers p q e f b c g h)
        by_second_ask p q e f b g (shown m side) h is = absurd (let z : ◌≡◌ {A = ℕ} 0 1 = cc in omega arith)
        by_second_ask p q e f b g (refused d) h is = absurd (let z : ◌≡◌ {A = ℕ} 0 1 = cc in omega arith)

        by_first_ask : (p q : ℕ) → one.reply ≡ class p → two.reply ≡ class q
            → (r : Reply) → (step (setup H K) two.classes (ask p q n)).reply ≡ r
            → and_then (told r) (λ within. and_then (told (step (setup H K) two.classes (ask q p n)).reply) (λ around. granted (related_by within around))) ≡ granted x
            → Means H K first second x
        by_first_ask p q e f (class k) g is = absurd (let z : ◌≡◌ {A = ℕ} 0 1 = cc in omega arith)
        by_first_ask p q e f (said b) g is = by_second_ask p q e f b g (step (setup H K) two.classes (ask q p n)).reply refl is
        by_first_ask p q e f (shown m side) g is = absurd (let z : ◌≡◌ {A = ℕ} 0 1 = cc in omega arith)
        by_first_ask p q e f (refused d) g is = absurd (let z : ◌≡◌ {A = ℕ} 0 1 = cc in omega arith)

        by_second_file : (p : ℕ) → one.reply ≡ class p → (r : Reply) → two.reply ≡ r
            → and_then (given r) (λ q. compared_by (setup H K) two.classes n p q) ≡ granted x → Means H K first second x
        unfolding compared_by
        by_second_file p e (class q) f is = by_first_ask p q e f (step (setup H K) two.classes (ask p q n)).reply refl is
        by_second_file p e (said b) f is = absurd (let z : ◌≡◌ {A = ℕ} 0 1 = cc in omega arith)
        by_second_file p e (shown m side) f is = absurd (let z : ◌≡◌ {A = ℕ} 0 1 = cc in omega arith)
        by_second_file p e (refused d) f is = absurd (let z : ◌≡◌ {A = ℕ} 0 1 = cc in omega arith)

        by_first_file : (r : Reply) → one.reply ≡ r
            → and_then (given r) (λ p. and_then (given two.reply) (λ q. compared_by (setup H K) two.classes n p q)) ≡ granted x → Means H K first second x
        by_first_file (class p) e is = by_second_file p e two.reply refl is
        by_first_file (said b) e is = absurd (let z : ◌≡◌ {A = ℕ} 0 1 = cc in omega arith)
        by_first_file (shown m side) e is = absurd (let z : ◌≡◌ {A = ℕ} 0 1 = cc in omega arith)
        by_first_file (refused d) e is = absurd (let z : ◌≡◌ {A = ℕ} 0 1 = cc in omega arith)

        -- A relation that comes of filing two entries and asking twice means what it says.
        pub relation_means : filed_by (setup H K) [] n first second ≡ granted x → Means H K first second x
        unfolding filed_by
        relation_means is = by_first_file one.reply refl is
