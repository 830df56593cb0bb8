-- Runs, call by call: the classes at each call, and the first entry for each number.
use Rattle.std.proofs.Common.{◌≡◌, ℕ, zero, suc, ◌<◌, ◌≤◌, Bool, true, false, cond, eqb, List, [], ◌∷◌, ◌++◌, length, get_or, Some, None, Option, sym, refl, ap, ◌∙◌, subst, inl, inr, ⊎_elim, arith, length-append}
use lib.Seq.{get_or-append_seam}
use Rattle.std.proofs.lemmas.Bool.{cases_eq, eq-eqb, ne_eqb, eqb-true}
use Rattle.meaning.specs.Bounded.{or_else}
use Rattle.meaning.specs.Worlds.{Interpretation}
use Rattle.meaning.specs.Orders.{RoleBox}
use Rattle.meaning.specs.Books.{Book}
use Rattle.tableau.specs.Promises.{Opens}
use Rattle.runs.specs.Setups.{Setup, setup}
use Rattle.runs.specs.Steps.{Call, file, ask, show, Reply, class, said, shown, refused, Done, step, file_step}
use Rattle.runs.specs.Runs.{Event, event, history, In, Gave, gave_number, filed_for, first_entry_for, in_entry, of_class}
use Rattle.runs.proofs.Searching.{member}
use Rattle.runs.proofs.Filing.{Kept, kept_none, FileRight, file_right}
use Rattle.runs.proofs.Classes.{Extends, extends_same, extends_equal, extends_more, extends_at}

-- the classes that a run leaves
pub final : Setup → List ℕ → List Call → List ℕ
final S cs [] = cs
final S cs (c ∷ rest) = final S (step S cs c).classes rest

-- the classes on which a call of the run was made, and what it made of them
pub record Moment (H : RoleBox) (K : Book) (c : Call) (d : Done) (last : List ℕ) : Type 0 where
  pub classes : List ℕ
  pub kept : Kept H K classes
  pub before : Extends classes last
  pub after : Extends (step (setup H K) classes c).classes last
  pub is : step (setup H K) classes c ≡ d

-- an event of the rest of a run is one of the run
gave_later : (x : Event) (xs : List Event) (e p : ℕ) → Gave xs e p → Gave (x ∷ xs) e p
gave_later x xs e p g = record { nodes = g.nodes; done = g.done; came = inr g.came; replied = g.replied }

-- the filing that is found first gave the number
pub first_gave : (run : List Event) (p e : ℕ) → first_entry_for run p ≡ Some e → Gave run e p
unfolding first_entry_for
first_gave [] p e h = absurd (let z : ◌≡◌ {A = ℕ} 0 1 = cc in omega arith)
first_gave (x ∷ xs) p e h = by_call (λ f. gave_later x xs e p (first_gave xs p e f)) x.call refl h
  where
    by_reply : (first_entry_for xs p ≡ Some e → Gave (x ∷ xs) e p) → (entry n : ℕ) → x.call ≡ file entry n → (r : Reply) → x.done.reply ≡ r → or_else (gave_number r p entry) (first_entry_for xs p) ≡ Some e → Gave (x ∷ xs) e p
    by_reply later entry n c (class q) r f = by_number (eqb q p) refl f
      where
        by_number : (b : Bool) → eqb q p ≡ b → or_else (cond b (Some entry) None) (first_entry_for xs p) ≡ Some e → Gave (x ∷ xs) e p
        by_number true t g =
            let same : entry ≡ e = cc in
            record {
              nodes = n;
              done = x.done;
              came = inl (λ i. record { call = (c ∙ ap (λ a. file a n) same) i; done = x.done });
              replied = r ∙ ap class (eqb-true q p t);
            }
        by_number false t g = later g
    by_reply later entry n c (said b) r f = later f
    by_reply later entry n c (shown m side) r f = later f
    by_reply later entry n c (refused d) r f = later f

    by_call : (first_entry_for xs p ≡ Some e → Gave (x ∷ xs) e p) → (c : Call) → x.call ≡ c → or_else (filed_for c x.done.reply p) (first_entry_for xs p) ≡ Some e → Gave (x ∷ xs) e p
    by_call later (file entry n) c f = by_reply later entry n c x.done.reply refl f
    by_call later (ask a b n) c f = later f
    by_call later (show a b n words) c f = later f

module _ (H : RoleBox) (K : Book) (P : Opens H K) where
  -- what was kept is kept, and no class is lost
  filed_kept : (cs ds : List ℕ) (e n : ℕ) → Kept H K cs → (r : Reply) → FileRight H K cs e n r ds → Kept H K ds × Extends cs ds
  filed_kept cs ds e n kept (class p) f = (f.kept, ⊎_elim (λ s. extends_equal cs ds s.0) (λ s. (e ∷ [], s.0)) f.grown)
  filed_kept cs ds e n kept (said b) f = absurd f
  filed_kept cs ds e n kept (shown m side) f = absurd f
  filed_kept cs ds e n kept (refused r) f = (subst (Kept H K) (sym f.0) kept, extends_equal cs ds f.0)

  step_kept : (cs : List ℕ) → Kept H K cs → (c : Call) → Kept H K (step (setup H K) cs c).classes × Extends cs (step (setup H K) cs c).classes
  step_kept cs kept (file e n) = filed_kept cs _ e n kept (file_step (setup H K) cs e n).reply (file_right H K P cs kept e n)
  step_kept cs kept (ask a b n) = (kept, extends_same cs)
  step_kept cs kept (show a b n words) = (kept, extends_same cs)

  pub final_kept : (cs : List ℕ) → Kept H K cs → (calls : List Call) → Kept H K (final (setup H K) cs calls) × Extends cs (final (setup H K) cs calls)
  unfolding final
  final_kept cs kept [] = (kept, extends_same cs)
  final_kept cs kept (c ∷ rest) =
      let s = step_kept cs kept c in
      let t = final_kept (step (setup H K) cs c).classes s.0 rest in
      (t.0, extends_more cs (step (setup H K) cs c).classes (final (setup H K) (step (setup H K) cs c).classes rest) s.1 t.1)

  -- every event of a run has its moment
  pub moment : (cs : List ℕ) → Kept H K cs → (calls : List Call) (c : Call) (d : Done) → In (event c d) (history (setup H K) cs calls)
      → Moment H K c d (final (setup H K) cs calls)
  unfolding final history
  moment cs kept [] c d i = absurd i
  moment cs kept (k ∷ rest) c d (inl e) =
      let s = step_kept cs kept k in
      let ds = (step (setup H K) cs k).classes in
      let t = final_kept ds s.0 rest in
      let same : k ≡ c = ap (λ e. e.call) e in
      let done : step (setup H K) cs k ≡ d = ap (λ e. e.done) e in
      record {
        classes = cs;
        kept = kept;
        before = extends_more cs ds (final (setup H K) ds rest) s.1 t.1;
        after = subst (λ x. Extends (step (setup H K) cs x).classes (final (setup H K) ds rest)) same t.1;
        is = subst (λ x. step (setup H K) cs x ≡ d) same done;
      }
  moment cs kept (k ∷ rest) c d (inr i) = moment (step (setup H K) cs k).classes (step_kept cs kept k).0 rest c d i

  -- a filing gives the number, and the class stands by its entry; or a later call gives it
  first_filed : (cs ds : List ℕ) (e n k : ℕ) → length cs ≤ k → (last : List ℕ) → Extends ds last → (rest : Option ℕ)
      → (r : Reply) → FileRight H K cs e n r ds → (length ds ≤ k → rest ≡ Some (get_or last k 0))
      → or_else (gave_number r (suc k) e) rest ≡ Some (get_or last k 0)
  first_filed cs ds e n k l last ext rest (class p) f later = ⊎_elim
      (λ old. ap (λ b. or_else (cond b (Some e) None) rest) (ne_eqb p (suc k) (λ x. omega (arith, old.1))) ∙ later (omega (arith, ap length old.0)))
      (λ fresh. ⊎_elim
      (λ (here : k ≡ length cs).
      ap (λ b. or_else (cond b (Some e) None) rest) (eq-eqb p (suc k) (omega (arith, fresh.1)))
      ∙ ap Some (sym (extends_at ds last ext k (omega (arith, ap length fresh.0, length-append cs (e ∷ [])))
      ∙ ap (λ xs. get_or xs k 0) fresh.0 ∙ ap (λ j. get_or (cs ++ e ∷ []) j 0) here ∙ get_or-append_seam cs e [] 0)))
      (λ other.
      ap (λ b. or_else (cond b (Some e) None) rest) (ne_eqb p (suc k) (λ x. other (omega (arith, fresh.1))))
      ∙ later (omega (arith, ap length fresh.0, length-append cs (e ∷ []))))
      (cases_eq k (length cs)))
      f.grown
  first_filed cs ds e n k l last ext rest (said b) f later = absurd f
  first_filed cs ds e n k l last ext rest (shown m side) f later = absurd f
  first_filed cs ds e n k l last ext rest (refused r) f later = later (omega (arith, ap length f.0))

  -- The first entry for a number that the run gives first is that by which its class stands in the end.
  first_for : (cs : List ℕ) → Kept H K cs → (calls : List Call) (k : ℕ) → length cs ≤ k → k < length (final (setup H K) cs calls)
      → first_entry_for (history (setup H K) cs calls) (suc k) ≡ Some (get_or (final (setup H K) cs calls) k 0)
  unfolding final history first_entry_for
  first_for cs kept [] k l m = absurd (omega arith)
  first_for cs kept (ask a b n ∷ rest) k l m = first_for cs kept rest k l m
  first_for cs kept (show a b n words ∷ rest) k l m = first_for cs kept rest k l m
  first_for cs kept (file e n ∷ rest) k l m =
      let ds = (file_step (setup H K) cs e n).classes in
      let s = step_kept cs kept (file e n) in
      first_filed cs ds e n k l (final (setup H K) ds rest) (final_kept ds s.0 rest).1 (first_entry_for (history (setup H K) ds rest) (suc k))
      (file_step (setup H K) cs e n).reply (file_right H K P cs kept e n) (λ far. first_for ds s.0 rest k far m)

  -- the individuals of a class, by the run and by the entry that it stands by
  pub class_members : (calls : List Call) (W : Interpretation) (p x : ℕ) → p ≤ length (final (setup H K) [] calls)
      → of_class K (history (setup H K) [] calls) W p x ≡ member K (final (setup H K) [] calls) W p x
  class_members calls W zero x l = refl
  class_members calls W (suc k) x l = ap (λ o. in_entry K W o x) (first_for [] (kept_none H K) calls k (omega arith) (omega arith))

  -- a class that stands in the end was given by the run
  pub class_gave : (calls : List Call) (k : ℕ) → k < length (final (setup H K) [] calls)
      → Gave (history (setup H K) [] calls) (get_or (final (setup H K) [] calls) k 0) (suc k)
  class_gave calls k l = first_gave (history (setup H K) [] calls) (suc k) _ (first_for [] (kept_none H K) calls k (omega arith) l)
