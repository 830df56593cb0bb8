use Rattle.std.proofs.Common.{◌≡◌, ℕ, ◌-◌, ◌*◌, ◌%◌, ◌<◌, ◌≤◌, List, length, get_or, take, sym, ap, subst, arith}
use Rattle.book.specs.Limits.{most_pairs}
use Rattle.book.specs.Views.{view}
use Rattle.book.proofs.Soundness.{sizes, book_pairs}
use Rattle.book.proofs.Book.pairs.Goals as goal

pub returns : goal.returns
returns c =
    let b = c.args.self.now in
    let s = sizes b in
    let n = 2 * b.counts.pairs in
    let e : n - 0 ≡ n = omega arith in
    let is : take (n - 0) b.pairs ≡ (view b).pairs = ap (λ k. take k b.pairs) e in
    record {
      value = is;
      few = subst (λ (xs : List ℕ). length xs ≤ 2 * most_pairs) (sym is) (omega (arith, s.pairs_are, b.few_pairs));
      whole = subst (λ (xs : List ℕ). length xs % 2 ≡ 0) (sym is) (omega (arith, s.pairs_are));
      inside = subst (λ (xs : List ℕ). (k : ℕ) → k < length xs → get_or xs k 0 < length (view b).roles) (sym is) (book_pairs b);
    }
