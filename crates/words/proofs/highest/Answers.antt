use Rattle.words.proofs.Words.{leading_highest}
use Rattle.words.proofs.highest.Goals as goal

pub returns : goal.returns
returns c =
    let l = leading_highest c.args.w c.requires c.ranges.w.fits in
    record { place = l.inside; last = l.last; most = l.most }
