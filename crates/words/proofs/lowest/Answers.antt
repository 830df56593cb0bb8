use Rattle.words.proofs.Words.{trailing_lowest}
use Rattle.words.proofs.lowest.Goals as goal

pub returns : goal.returns
returns c =
    let l = trailing_lowest 64 c.args.w c.requires c.ranges.w.fits in
    record { place = l.inside; first = l.first; least = l.least }
