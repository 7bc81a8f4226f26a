-- What is chosen by the text that is given to an option.
use Rattle.std.proofs.Common.{◌≡◌, ◌≤◌}
use Rattle.dae_base.specs.declared.Depths.{Depths}
use Rattle.dae_base.specs.declared.Queue.TheVariants.{Ld, Al, Sa, Sd, Ab, Eb, Cq}
use Rattle.dae_cli_options.specs.Options.{AreDepths}
use Rattle.dae_cli_options.specs.Ranges.{IsFromTo}

-- ---- ranges

pub all_depths : (d : Depths) → IsFromTo 1 4096 d.ld → IsFromTo 1 4096 d.al → IsFromTo 1 4096 d.sa → IsFromTo 1 4096 d.sd → IsFromTo 1 4096 d.ab → IsFromTo 1 4096 d.eb → IsFromTo 1 4096 d.cq → AreDepths d
all_depths d ld al sa sd ab eb cq Ld = ld
all_depths d ld al sa sd ab eb cq Al = al
all_depths d ld al sa sd ab eb cq Sa = sa
all_depths d ld al sa sd ab eb cq Sd = sd
all_depths d ld al sa sd ab eb cq Ab = ab
all_depths d ld al sa sd ab eb cq Eb = eb
all_depths d ld al sa sd ab eb cq Cq = cq
