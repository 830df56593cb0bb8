-- Each step as its contract asks it, over plain lists.
use Rattle.std.proofs.Common.{◌≡◌, ℕ, ◌+◌, ◌-◌, ◌<◌, ◌≤◌, true, false, ◌≢◌, List, [], ◌∷◌, ◌++◌, length, get_or, take, drop, set, replicate, sym, ap, ◌∙◌, ⊎_elim, arith, length-append, length-drop, length-set, Some, None, Option, Ok, Err, Result}
use borrow.Rule.Slice.PartMut.{put_mid, post_of}
use Rattle.std.proofs.lemmas.List.{get_or-set_other, get_or-take, get_or-drop, get_or_append_left, get_or-append_right, get_or-replicate, length-take-le, length-replicate, ext_get_or}
use Rattle.std.proofs.lemmas.Slice.{take-put_mid_below}
use Rattle.std.proofs.lemmas.Bool.{cases_lt, false≢true}
use Rattle.tableau.specs.declared.Label.{Label}
use Rattle.tableau.specs.Labels.{any_contains}
use Rattle.std.specs.Result.{IsErr}
use Rattle.tableau.specs.Search.{Outcome, full}
use Rattle.search.specs.declared.NoRoom.{NoRoom}
use Rattle.search.specs.declared.Node.{Node}
use Rattle.search.specs.declared.Waiting.{Waiting}
use Rattle.search.specs.Games.{Game, Bounded, explore_by}
use Rattle.search.specs.Nodes.{blank, labels, DoneFrom, NewestIn, BlankFrom, Says}
use Rattle.search.specs.Loop.{Task, Go, Fail, Try, value, measure, Fit, Went}
use Rattle.search.proofs.Resume.{finish, again, fresh, exhausted, make, back, complete, go_on, refuse, descend, start}
use Rattle.search.proofs.Digits.{lighter_next, lighter_done, falls_write, falls_back, falls_none, falls_make}

pub all_blank : (n : ℕ) (xs : List Node) → length xs ≡ n → ((k : ℕ) → k < n → get_or xs k blank ≡ blank) → xs ≡ replicate n blank
all_blank n xs l e =
    ext_get_or blank xs (replicate n blank) (l ∙ sym (length-replicate n blank))
    (λ i h. e i (omega arith) ∙ sym (get_or-replicate n i blank blank (omega arith)))

pub blank_all : (n : ℕ) (xs : List Node) → xs ≡ replicate n blank → BlankFrom 0 xs
blank_all n xs e k a b =
    let l : length xs ≡ n = ap length e ∙ length-replicate n blank in
    ap (λ ys. get_or ys k blank) e ∙ get_or-replicate n k blank blank (omega arith)

-- where the nodes from m on are blank, and those before it were wiped, all are
pub blank_front : (n k : ℕ) (nodes ys : List Node) → length nodes ≡ n → k ≤ length nodes → BlankFrom k nodes → ys ≡ replicate (length (take k nodes)) blank
    → ys ++ drop k nodes ≡ replicate n blank
blank_front n k nodes ys whole l b e =
    let many : length ys ≡ k = ap length e ∙ length-replicate (length (take k nodes)) blank ∙ length-take-le k nodes l in
    all_blank n (ys ++ drop k nodes) (simp (length-append, length-drop) (omega arith))
    (λ i h. ⊎_elim
    (λ before. get_or_append_left ys (drop k nodes) blank i (omega arith) ∙ blank_all (length (take k nodes)) ys e i (omega arith) (omega arith))
    (λ after.
    get_or-append_right ys (drop k nodes) k i blank many after
    ∙ get_or-drop k nodes (i - k) blank
    ∙ ap (λ j. get_or nodes j blank) (omega arith) ∙ b i after (omega arith))
    (cases_lt i k))

-- the nodes from m on are blank in what stands from p on, too
pub blank_behind : (p m : ℕ) (nodes : List Node) → p ≤ m → BlankFrom m nodes → BlankFrom (m - p) (drop p nodes)
blank_behind p m nodes h b k a l =
    let lt : p + k < length nodes = omega (arith, simp length-drop at l) in
    get_or-drop p nodes k blank ∙ b (p + k) (omega arith) lt

blank_set : (nodes : List Node) (p m : ℕ) (y : Node) → p < m → BlankFrom m nodes → BlankFrom m (set nodes p y)
blank_set nodes p m y h b k a l =
    let ne : k ≢ p = omega arith in
    let lt : k < length nodes = omega (arith, simp length-set at l) in
    get_or-set_other nodes p k y blank ne ∙ b k a lt

-- the first m nodes by themselves
module _ (nodes : List Node) (m : ℕ) (h : m ≤ length nodes) where
  done_front : (p : ℕ) → DoneFrom p (length (take m nodes)) (take m nodes) → DoneFrom p m nodes
  done_front p d k a b =
      let l : k < length (take m nodes) = rw length-take-le b in
      sym (ap (λ x. x.waiting) (get_or-take m nodes k blank b)) ∙ d k a l

  pub newest_none : NewestIn (take m nodes) None → DoneFrom 0 m nodes
  newest_none d = done_front 0 d

  newest_some : (p : ℕ) (v : Waiting) → NewestIn (take m nodes) (Some (p, v))
      → (p < m) × ((get_or nodes p blank).waiting ≡ Some v) × DoneFrom (p + 1) m nodes
  newest_some p v e =
      let l : p < m = omega (arith, e.0, length-take-le m nodes h) in
      (l, sym (ap (λ x. x.waiting) (get_or-take m nodes p blank l)) ∙ e.1, done_front (p + 1) e.2)

-- the first m nodes went on, and no node was made: the search still comes to the same, with no more to do
pub record Along (G : Game) (was : List Node) (m : ℕ) (is : List Node) : Type 0 where
  pub fit : Fit is m Go
  pub long : length is ≡ length was
  pub kept : value G (length is) is m Go ≡ value G (length is) was m Go
  pub falls : measure G (length is) is m Go ≤ measure G (length is) was m Go

module _ (G : Game) (was : List Node) (m : ℕ) (now is : List Node) (a : Along G was m now) where
  pub along_more : length is ≡ length now → Went G now m Go is m Go → Along G was m is
  along_more l w =
      record {
        fit = w.fit;
        long = l ∙ a.long;
        kept = rw l (w.kept ∙ a.kept);
        falls = rw l (omega (arith, w.falls, a.falls));
      }

  pub along_to : (k : ℕ) (t : Task) → Went G now m Go is k t → Went G was m Go is k t
  along_to k t w =
      record { fit = w.fit; kept = rw (sym a.long) (w.kept ∙ a.kept); falls = rw (sym a.long) (omega (arith, w.falls, a.falls)) }

-- what was searched for from the start is kept where a turn of the search has two steps
module _ (G : Game) (start was now is : List Node) (m j k l : ℕ) (r t u v : Task)
    (e : length now ≡ length was) (f : length is ≡ length now) (a : Went G was m t now j u) (b : Went G now j u is k v) where
  pub turn_kept : value G (length was) was m t ≡ value G (length was) start l r → value G (length is) is k v ≡ value G (length is) start l r
  turn_kept i = rw (f ∙ e) (rw (sym e) b.kept ∙ a.kept ∙ i)

  pub turn_falls : measure G (length is) is k v < measure G (length was) was m t
  turn_falls = rw (f ∙ e) (let g : measure G (length was) is k v < measure G (length was) now j u = rw (sym e) b.falls in omega (arith, a.falls, g))

-- what the search comes to that began at the seed
pub began : (G : Game) (first now : List Node) (m : ℕ) (t : Task) (seed : Label) → length now ≡ length first → 0 < length now
    → value G (length now) now m t ≡ value G (length now) first 0 (Try seed 0) → value G (length now) now m t ≡ explore_by G (length first) (length first) [] seed
began G first now m t seed e h k = k ∙ start G (length now) first seed h ∙ ap (λ n. explore_by G n n [] seed) e

pub no_room : (nodes : List Node) (r : Result (Option ℕ) NoRoom) (v : Outcome) → IsErr r → v ≡ full → BlankFrom 0 nodes → Says nodes r v
no_room nodes (Err e) v i h b = (h, b)
no_room nodes (Ok x) v i h b = absurd (false≢true i)

module _ (G : Game) (B : Bounded G) (nodes : List Node) where
  pub went_none : (m : ℕ) (s : Label) (c : ℕ) → m < length nodes → BlankFrom m nodes → G.labels_from s c ≡ [] → Went G nodes m (Try s c) nodes m Fail
  went_none m s c h b e =
      record {
        fit = record { within = omega arith; blanks = b };
        kept = exhausted G (length nodes) nodes m s c e;
        falls = falls_none G B nodes m s c h;
      }

  pub went_new : (m : ℕ) (s : Label) (c : ℕ) (e : Label) (q : ℕ) → m < length nodes → BlankFrom m nodes → G.labels_from s c ≡ e ∷ G.labels_from s q
      → Went G nodes m (Try s c) (set nodes m (fresh s e q)) (m + 1) Go
  went_new m s c e q h b z =
      record {
        fit = record {
          within = simp length-set (omega arith);
          blanks = blank_set nodes m (m + 1) (fresh s e q) (omega arith) (λ k a l. b k (omega arith) l);
        };
        kept = make G (length nodes) nodes m s c e q h z;
        falls = falls_make G B nodes m s c e q h z;
      }

  module _ (m : ℕ) (k : m ≤ length nodes) (b : BlankFrom m nodes) (p : ℕ) (v : Waiting) (n : NewestIn (take m nodes) (Some (p, v))) where
    h : p < m
    h = (newest_some nodes m k p v n).0

    w : (get_or nodes p blank).waiting ≡ Some v
    w = (newest_some nodes m k p v n).1

    d : DoneFrom (p + 1) m nodes
    d = (newest_some nodes m k p v n).2

    pub went_done : G.seeds_from (get_or nodes p blank).label v.next ≡ []
        → Went G nodes m Go (set nodes p (finish (get_or nodes p blank))) m Go
    went_done s =
        record {
          fit = record { within = rw length-set k; blanks = blank_set nodes p m (finish (get_or nodes p blank)) h b };
          kept = complete G (length nodes) nodes p m h k v w d s;
          falls = falls_write G B nodes p m Go Go (finish (get_or nodes p blank)) h k (lighter_done G B (get_or nodes p blank) v w);
        }

    module _ (t : Label) (q : ℕ) (s : G.seeds_from (get_or nodes p blank).label v.next ≡ t ∷ G.seeds_from (get_or nodes p blank).label q) where
      pub went_on : any_contains (labels (take m (set nodes p (again (get_or nodes p blank) v q)))) t ≡ true
          → Went G nodes m Go (set nodes p (again (get_or nodes p blank) v q)) m Go
      went_on f =
          record {
            fit = record { within = rw length-set k; blanks = blank_set nodes p m (again (get_or nodes p blank) v q) h b };
            kept = go_on G (length nodes) nodes p m h k v w d t q s f;
            falls = falls_write G B nodes p m Go Go (again (get_or nodes p blank) v q) h k (lighter_next G B (get_or nodes p blank) v w t q s);
          }

      pub without_room : any_contains (labels (take m (set nodes p (again (get_or nodes p blank) v q)))) t ≡ false → length nodes ≤ m
          → value G (length nodes) nodes m Go ≡ full
      without_room f r = refuse G (length nodes) nodes p m h k v w d t q s f r

      pub went_down : any_contains (labels (take m (set nodes p (again (get_or nodes p blank) v q)))) t ≡ false → m < length nodes
          → Went G nodes m Go (set nodes p (again (get_or nodes p blank) v q)) m (Try t 0)
      went_down f r =
          record {
            fit = record { within = rw length-set r; blanks = blank_set nodes p m (again (get_or nodes p blank) v q) h b };
            kept = descend G (length nodes) nodes p m h k v w d t q s f r;
            falls = falls_write G B nodes p m Go (Try t 0) (again (get_or nodes p blank) v q) h k (lighter_next G B (get_or nodes p blank) v w t q s);
          }

    pub went_back : (ys : List Node) → ys ≡ replicate (length nodes - p) blank
        → Went G nodes m Fail (put_mid p (length nodes - p) nodes ys) p (Try (get_or nodes p blank).seed v.choice)
    went_back ys e =
        let before : p < m = h in
        let is = put_mid p (length nodes - p) nodes ys in
        let post = post_of p (length nodes - p) nodes in
        let cut : length (take p nodes) ≡ p = length-take-le p nodes (omega arith) in
        let l : length ys ≡ length nodes - p = ap length e ∙ length-replicate (length nodes - p) blank in
        let long : length is ≡ length (take p nodes) + (length ys + length post) = simp length-append in
        let front : (i : ℕ) → i < p → get_or is i blank ≡ get_or nodes i blank = λ i a.
        get_or_append_left (take p nodes) (ys ++ post) blank i (omega arith) ∙ get_or-take p nodes i blank a in
        let past : length post ≡ 0 = simp length-drop (omega arith) in
        record {
          fit = record {
            within = omega arith;
            blanks = λ i a b.
                get_or-append_right (take p nodes) (ys ++ post) p i blank cut a
                ∙ get_or_append_left ys post blank (i - p) (omega arith)
                ∙ blank_all (length nodes - p) ys e (i - p) (omega arith) (omega arith);
          };
          kept = back G (length nodes) nodes p m h k v w d is (take-put_mid_below p (length nodes - p) nodes ys p (omega arith) (omega arith));
          falls = falls_back G B nodes is m p v h k w front;
        }
