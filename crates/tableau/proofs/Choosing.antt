-- A search only adds to what stands. So an edge stays as it was chosen, and each obligation of a node that stands in the
-- end was met at some moment, with all that stood then standing still.
use Rattle.std.proofs.Common.{◌≡◌, ℕ, zero, suc, ◌+◌, ◌<◌, ◌≤◌, Bool, true, false, leb, List, [], ◌∷◌, ◌++◌, length, get_or, sym, refl, ap, ◌∙◌, subst, ⊎_elim, arith, Option, None, Some}
use Rattle.std.proofs.lemmas.List.{append-nil, append_assoc, length-append, length_push, get_or_append_left, get_or_push}
use Rattle.std.proofs.lemmas.Bool.{cases_eq, cases_lt, cond-true, cond-false, leb-false}
use Rattle.meaning.specs.Orders.{RoleBox}
use Rattle.tableau.specs.declared.Label.{Label}
use Rattle.tableau.specs.declared.Demand.{Demand}
use Rattle.tableau.specs.Labels.{empty, any_contains, lowest}
use Rattle.tableau.specs.Entries.{Table, LowerEntry}
use Rattle.tableau.specs.Expansions.{expansions}
use Rattle.tableau.specs.Seeds.{obliged_at, seed_of, wants}
use Rattle.tableau.specs.Search.{Outcome, failed, full, stands, Searcher, or_else, reuse, pursue, meet_from, try_each, enter, explore}
use Rattle.tableau.specs.Moments.{Tried, Moment, first, next, deeper, chosen, EdgeChosen}
use Rattle.tableau.proofs.Tests.{never}
use Rattle.tableau.proofs.Labelling.{contains_from, lowest_stays, lowest_next}
use Rattle.tableau.proofs.Outcomes.{then_cases, else_cases}
use Rattle.tableau.proofs.Leaving.{Rooted, same_labels, explore_leaves}

-- ls is st and more
abbrev pub Extends : List Label → List Label → Type 0
Extends st ls = (more : List Label) × (ls ≡ st ++ more)

-- what stands extends itself, and what extends an extension extends
extends_same : (st ls : List Label) → st ≡ ls → Extends st ls
extends_same st ls e = ([], sym e ∙ sym (append-nil st))

extends_on : (st ms ls : List Label) → Extends st ms → Extends ms ls → Extends st ls
extends_on st ms ls a b = (a.0 ++ b.0, b.1 ∙ ap (λ zs. zs ++ b.0) a.1 ∙ append_assoc st a.0 b.0)

-- an extension is as long or longer, with the same labels before
pub extends_length : (st ls : List Label) → Extends st ls → length st ≤ length ls
extends_length st ls a = omega (arith, ap length a.1, length-append st a.0)

pub extends_at : (st ls : List Label) → Extends st ls → (x : ℕ) → x < length st → get_or ls x empty ≡ get_or st x empty
extends_at st ls a x l = ap (λ zs. get_or zs x empty) a.1 ∙ get_or_append_left st a.0 empty x l

module _ (H : RoleBox) (B : Table) (lower : (i : ℕ) → LowerEntry i (B.entry i)) (n : ℕ) where
  -- a search that stands has made a node, whose label holds the seed, after what stood
  made : (k : ℕ) (st : List Label) (seed : Label) (ls : List Label) → explore H B n k st seed ≡ stands ls → Rooted H B (λ l. Unit {0}) st seed ls
  made k st seed ls e = explore_leaves H B lower (λ l. Unit {0}) (λ l m h u. tt) (λ l i r a s w o u. tt) n k st seed ls tt e

  -- an edge to an old label stays since the labels up to it do; one to a new label, since none before it contains the seed
  pub edge_stays : (k : ℕ) (l : Label) (r : ℕ) (s : Bool) (a : ℕ) (st ms more : List Label)
      → pursue H B (explore H B n k) l (wants r s a) st ≡ stands ms → lowest (ms ++ more) (seed_of H B l r s a) ≡ chosen st (seed_of H B l r s a)
  unfolding pursue reuse
  edge_stays k l r s a st ms more e = go (seed_of H B l r s a) (any_contains st (seed_of H B l r s a)) refl e
    where
      go : (seed : Label) (b : Bool) → any_contains st seed ≡ b → reuse b (explore H B n k) st seed ≡ stands ms → lowest (ms ++ more) seed ≡ chosen st seed
      go seed true h e =
          ap (λ zs. lowest (zs ++ more) seed) (sym (same_labels st ms e)) ∙ lowest_stays st more seed h ∙ sym (cond-true (any_contains st seed) (lowest st seed) (length st) h)
      go seed false h e =
          let f = made k st seed ms e in
          ap (λ zs. lowest (zs ++ more) seed) f.are ∙ ap (λ zs. lowest zs seed) (append_assoc st (f.top ∷ f.rest) more)
          ∙ lowest_next st f.top (f.rest ++ more) seed h (contains_from f.top seed f.root)
          ∙ sym (cond-false (any_contains st seed) (lowest st seed) (length st) h)

  -- what stands once an obligation is met extends what stood
  pub pursue_extends : (k : ℕ) (l : Label) (o : Option Demand) (st ms : List Label) → pursue H B (explore H B n k) l o st ≡ stands ms → Extends st ms
  unfolding pursue reuse
  pursue_extends k l None st ms e = extends_same st ms (same_labels st ms e)
  pursue_extends k l (Some d) st ms e = go (seed_of H B l d.role d.sign d.part) (any_contains st (seed_of H B l d.role d.sign d.part)) e
    where
      go : (seed : Label) (b : Bool) → reuse b (explore H B n k) st seed ≡ stands ms → Extends st ms
      go seed true e = extends_same st ms (same_labels st ms e)
      go seed false e = let f = made k st seed ms e in (f.top ∷ f.rest, f.are)

  module _ (root : Label) where
    -- the obligation of node x at entry i, if there is one, was met, and all that stood then stands in ls
    record Met (ls : List Label) (x i : ℕ) : Type 0 where
      depth : ℕ
      before : List Label
      after : List Label
      moment : Moment H B n root depth x i before
      label : get_or before x empty ≡ get_or ls x empty
      met : pursue H B (explore H B n depth) (get_or ls x empty) (obliged_at B (get_or ls x empty) i) before ≡ stands after
      lasts : Extends after ls

    -- it stays met when more stands
    met_longer : (ms ls : List Label) (x i : ℕ) → x < length ms → Extends ms ls → Met ms x i → Met ls x i
    met_longer ms ls x i l a m =
        let same = sym (extends_at ms ls a x l) in
        record {
          depth = m.depth;
          before = m.before;
          after = m.after;
          moment = m.moment;
          label = m.label ∙ same;
          met = subst (λ c. pursue H B (explore H B n m.depth) c (obliged_at B c i) m.before ≡ stands m.after) same m.met;
          lasts = extends_on m.after ms ls m.lasts a;
        }

    -- all obligations of the nodes from p on are met in ls
    abbrev MetFrom : ℕ → List Label → Type 0
    MetFrom p ls = (x i : ℕ) → p ≤ x → x < length ls → i < B.width → Met ls x i

    -- of those from p on, some are in ms, and the others from there on
    met_both : (p : ℕ) (ms ls : List Label) → Extends ms ls → MetFrom p ms → MetFrom (length ms) ls → MetFrom p ls
    met_both p ms ls a f g x i h l w = ⊎_elim (λ low. met_longer ms ls x i low a (f x i h low w)) (λ high. g x i high l w) (cases_lt x (length ms))

    -- the node that an expansion makes has its moment
    abbrev pub Starts : ℕ → List Label → Label → Type 0
    Starts k st seed = (j : ℕ) (e : Label) → k ≡ suc j → Tried H B n j st seed e → Moment H B n root j (length st) 0 (st ++ e ∷ [])

    -- a search that stands ends at a moment of its node, with the obligations met of all nodes that it made
    record Made (st ls : List Label) : Type 0 where
      end : (j : ℕ) × Moment H B n root j (length st) B.width ls
      all : MetFrom (length st) ls

    abbrev MeetsAll : ℕ → Type 0
    MeetsAll k = (st : List Label) (seed : Label) (ls : List Label) → Starts k st seed → explore H B n k st seed ≡ stands ls → Made st ls

    -- what a node whose obligations are met from an entry on leaves
    record Done (k x i : ℕ) (st ls : List Label) : Type 0 where
      longer : Extends st ls
      end : Moment H B n root k x B.width ls
      own : (j : ℕ) → i ≤ j → j < B.width → Met ls x j
      others : MetFrom (length st) ls

    -- the moments of a node labelled l: its obligation is met, or a node is made for it
    pub step_next : (k x i : ℕ) (st : List Label) → Moment H B n root k x i st → (l : Label) → get_or st x empty ≡ l → i < B.width
        → (ms : List Label) → pursue H B (explore H B n k) l (obliged_at B l i) st ≡ stands ms → Moment H B n root k x (suc i) ms
    step_next k x i st m l is low ms =
        subst (λ c. pursue H B (explore H B n k) c (obliged_at B c i) st ≡ stands ms → Moment H B n root k x (suc i) ms) is (λ e. next k x i st ms m low e)

    pub step_deeper : (k x i : ℕ) (st : List Label) → Moment H B n root k x i st → (l : Label) → get_or st x empty ≡ l → i < B.width
        → (r : ℕ) (s : Bool) (a : ℕ) → obliged_at B l i ≡ wants r s a → any_contains st (seed_of H B l r s a) ≡ false → Starts k st (seed_of H B l r s a)
    step_deeper k x i st m l is low r s a w h j f up = subst
        (λ c. obliged_at B c i ≡ wants r s a → any_contains st (seed_of H B c r s a) ≡ false → Tried H B n j st (seed_of H B c r s a) f → Moment H B n root j (length st) 0 (st ++ f ∷ []))
        is (λ o none tried. deeper j x i r a s st f (subst (λ d. Moment H B n root d x i st) up m) low o none tried) w h

    -- an obligation has met those of the nodes made for it
    pursue_meets : (k : ℕ) → MeetsAll k → (l : Label) (x i : ℕ) (st : List Label) → Moment H B n root k x i st → get_or st x empty ≡ l → i < B.width
        → (o : Option Demand) → obliged_at B l i ≡ o → (ms : List Label) → pursue H B (explore H B n k) l o st ≡ stands ms → MetFrom (length st) ms
    unfolding pursue reuse
    pursue_meets k good l x i st m is low None w ms e = λ y j h p. absurd (omega (arith, ap length (same_labels st ms e)))
    pursue_meets k good l x i st m is low (Some d) w ms e = go (any_contains st seed) refl e
      where
        seed : Label
        seed = seed_of H B l d.role d.sign d.part

        go : (b : Bool) → any_contains st seed ≡ b → reuse b (explore H B n k) st seed ≡ stands ms → MetFrom (length st) ms
        go true h e = λ y j q p. absurd (omega (arith, ap length (same_labels st ms e)))
        go false h e = (good st seed ms (step_deeper k x i st m l is low d.role d.sign d.part w h) e).all

    -- the obligation at hand was met, and the rest is done
    done_step : (k : ℕ) (l : Label) (x i : ℕ) (st ms ls : List Label) → Moment H B n root k x i st → get_or st x empty ≡ l → x < length st
        → pursue H B (explore H B n k) l (obliged_at B l i) st ≡ stands ms → MetFrom (length st) ms → Done k x (suc i) ms ls → Done k x i st ls
    done_step k l x i st ms ls m is p e f d = record {
      longer = longer;
      end = d.end;
      own = λ j h w. ⊎_elim (λ (same : i ≡ j). subst (Met ls x) same here) (λ other. d.own j (omega arith) w) (cases_eq i j);
      others = met_both (length st) ms ls d.longer f d.others;
    }
      where
        longer : Extends st ls
        longer = extends_on st ms ls (pursue_extends k l (obliged_at B l i) st ms e) d.longer

        now : l ≡ get_or ls x empty
        now = sym is ∙ sym (extends_at st ls longer x p)

        here : Met ls x i
        here = record {
          depth = k;
          before = st;
          after = ms;
          moment = m;
          label = is ∙ now;
          met = subst (λ c. pursue H B (explore H B n k) c (obliged_at B c i) st ≡ stands ms) now e;
          lasts = d.longer;
        }

    -- several, one after another
    meet_meets : (k : ℕ) → MeetsAll k → (l : Label) (x d i : ℕ) (st : List Label) → Moment H B n root k x i st → get_or st x empty ≡ l → x < length st → i + d ≡ B.width
        → (ls : List Label) → meet_from H B (explore H B n k) l d i st ≡ stands ls → Done k x i st ls
    unfolding meet_from
    meet_meets k good l x zero i st m is p all ls = λ e. subst (Done k x i st) (same_labels st ls e) (record {
      longer = extends_same st st refl;
      end = let up : i ≡ B.width = omega arith in subst (λ j. Moment H B n root k x j st) up m;
      own = λ j h w. absurd (omega arith);
      others = λ y j h w. absurd (omega arith);
    })
    meet_meets k good l x (suc d) i st m is p all ls =
        then_cases (λ o. o ≡ stands ls → Done k x i st ls) (pursue H B (explore H B n k) l (obliged_at B l i) st) (meet_from H B (explore H B n k) l d (suc i))
        (λ o e. never cc) (λ o e. never cc)
        (λ ms o e.
        let a = pursue_extends k l (obliged_at B l i) st ms o in
        let f = pursue_meets k good l x i st m is (omega arith) (obliged_at B l i) refl ms o in
        let later = meet_meets k good l x d (suc i) ms (step_next k x i st m l is (omega arith) ms o) (extends_at st ms a x p ∙ is) (omega (arith, extends_length st ms a)) (omega arith) ls e in
        done_step k l x i st ms ls m is p o f later)

    -- the node of an expansion meets its own obligations and those of the nodes made for them
    node_meets : (k : ℕ) → MeetsAll k → (st : List Label) (e : Label) → Moment H B n root k (length st) 0 (st ++ e ∷ [])
        → (ls : List Label) → meet_from H B (explore H B n k) e B.width 0 (st ++ e ∷ []) ≡ stands ls → Made st ls
    node_meets k good st e m ls o =
        let d = meet_meets k good e (length st) B.width 0 (st ++ e ∷ []) m (get_or_push st e empty (length st) refl) (omega (arith, length_push st e)) (omega arith) ls o in
        record {
          end = (k, d.end);
          all = λ x i h l w. ⊎_elim
              (λ (same : length st ≡ x). subst (λ y. Met ls y i) same (d.own i (omega arith) w))
              (λ other. d.others x i (omega (arith, length_push st e)) l w)
              (cases_eq (length st) x);
        }

    -- where all of some expansions failed, those after them are left; and one more that fails adds to these
    pub after_failed : (sub : Searcher) (st before rest : List Label) → try_each H B sub st before ≡ failed → try_each H B sub st (before ++ rest) ≡ try_each H B sub st rest
    unfolding try_each or_else
    after_failed sub st [] rest h = refl
    after_failed sub st (c ∷ before) rest h = go (meet_from H B sub c B.width 0 (st ++ c ∷ [])) h (λ g. after_failed sub st before rest g)
      where
        go : (z : Outcome) → or_else z (λ u. try_each H B sub st before) ≡ failed → (try_each H B sub st before ≡ failed → try_each H B sub st (before ++ rest) ≡ try_each H B sub st rest)
            → or_else z (λ u. try_each H B sub st (before ++ rest)) ≡ try_each H B sub st rest
        go failed h f = f h
        go full h f = never cc
        go (stands ms) h f = never cc

    pub failed_push : (sub : Searcher) (st before : List Label) (e : Label) → try_each H B sub st before ≡ failed
        → meet_from H B sub e B.width 0 (st ++ e ∷ []) ≡ failed → try_each H B sub st (before ++ e ∷ []) ≡ failed
    unfolding try_each or_else
    failed_push sub st before e h o = after_failed sub st before (e ∷ []) h ∙ ap (λ z. or_else z (λ u. try_each H B sub st [])) o

    -- the first expansion that does not fail
    try_meets : (k : ℕ) → MeetsAll k → (st : List Label) (seed : Label) → Starts (suc k) st seed → length st < n
        → (before es : List Label) → expansions B seed ≡ before ++ es → try_each H B (explore H B n k) st before ≡ failed
        → (ls : List Label) → try_each H B (explore H B n k) st es ≡ stands ls → Made st ls
    unfolding try_each
    try_meets k good st seed starts room before [] are gone ls = λ e. never cc
    try_meets k good st seed starts room before (e ∷ es) are gone ls =
        else_cases (λ o. o ≡ stands ls → Made st ls) (meet_from H B (explore H B n k) e B.width 0 (st ++ e ∷ [])) (λ u. try_each H B (explore H B n k) st es)
        (λ o later. try_meets k good st seed starts room (before ++ e ∷ []) es (are ∙ sym (append_assoc before (e ∷ []) es)) (failed_push (explore H B n k) st before e gone o) ls later)
        (λ o h. never cc)
        (λ ms o h. node_meets k good st e (starts k e refl (record { before = before; after = es; room = room; among = are; all_failed = gone })) ls (o ∙ h))

    -- the search at each depth
    explore_meets : (k : ℕ) → MeetsAll k
    unfolding explore enter try_each
    explore_meets zero st seed ls starts e = never cc
    explore_meets (suc k) st seed ls starts e = go (explore_meets k) (leb n (length st)) refl e
      where
        go : MeetsAll k → (b : Bool) → leb n (length st) ≡ b → enter H B b (explore H B n k) st seed ≡ stands ls → Made st ls
        go good true h e = never cc
        go good false h e = try_meets k good st seed starts (leb-false n (length st) h) [] (expansions B seed) refl refl ls e

    -- the root's search starts where nothing stands
    root_meets : (ls : List Label) → explore H B n n [] root ≡ stands ls → Made [] ls
    root_meets ls e = explore_meets n [] root ls (λ j e up tried. first j e up tried) e

    -- so in the end every obligation of every node was met, and its edge is the one chosen then
    pub edges_met : (ls : List Label) → explore H B n n [] root ≡ stands ls → (x i r a : ℕ) (s : Bool) → x < length ls → i < B.width
        → obliged_at B (get_or ls x empty) i ≡ wants r s a → EdgeChosen H B n root ls x i r s a
    edges_met ls e x i r a s l low w =
        let m = (root_meets ls e).all x i (omega arith) l low in
        let p : pursue H B (explore H B n m.depth) (get_or ls x empty) (wants r s a) m.before ≡ stands m.after =
        subst (λ o. pursue H B (explore H B n m.depth) (get_or ls x empty) o m.before ≡ stands m.after) w m.met in
        record {
          depth = m.depth;
          before = m.before;
          after = m.after;
          later = m.lasts.0;
          moment = m.moment;
          label = m.label;
          met = p;
          lasts = m.lasts.1;
          edge = ap (λ zs. lowest zs (seed_of H B (get_or ls x empty) r s a)) m.lasts.1 ∙ edge_stays m.depth (get_or ls x empty) r s a m.before m.after m.lasts.0 p;
        }

    -- and what stands in the end stands at a moment, when the last obligation of the root is met
    pub root_ends : (ls : List Label) → explore H B n n [] root ≡ stands ls → (k : ℕ) × Moment H B n root k 0 B.width ls
    root_ends ls e = (root_meets ls e).end
