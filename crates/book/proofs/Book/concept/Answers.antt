use Rattle.std.proofs.Common.{◌+◌, ◌*◌, ◌<◌, ◌≤◌, length, get_or, sym, ap, arith}
use Rattle.std.proofs.lemmas.List.{get_or_past, get_or-take}
use Rattle.book.specs.Kinds.{kind_of}
use Rattle.book.specs.Sections.{decode}
use Rattle.book.specs.Views.{view}
use Rattle.book.proofs.Soundness.{sizes}
use Rattle.book.proofs.Book.concept.Goals as goal

pub returns-then-i-self : goal.returns-then-i-self
unfolding kind_of
returns-then-i-self c =
    let b = c.args.self.now in
    let i = c.args.i in
    let cs = (view b).concepts in
    let past : length cs ≤ 4 * i = omega (arith, (sizes b).concepts_are, c.if-i-self.true) in
    sym (ap (λ k. decode (kind_of k) (get_or cs (4 * i + 1) 0) (get_or cs (4 * i + 2) 0)) (get_or_past cs (4 * i) 0 past))

pub returns : goal.returns
returns c =
    let b = c.args.self.now in
    let i = c.args.i in
    let n = 4 * b.counts.entries in
    let l : i < b.counts.entries = c.if-i-self.false in
    cc (c.decoded.ensures, get_or-take n b.concepts (4 * i) 0 (omega arith), get_or-take n b.concepts (4 * i + 1) 0 (omega arith), get_or-take n b.concepts (4 * i + 2) 0 (omega arith))
