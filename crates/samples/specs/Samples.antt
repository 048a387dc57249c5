-- All the samples that are shown of the definitions, in one statement.
use Rattle.samples.specs.OfCounts.{StickySample, TallySample}
use Rattle.samples.specs.OfLedgers.{FirstContentKept, CountsLeftAlone}

pub record Samples : Type 0 where
  pub sticky : StickySample
  pub tally : TallySample
  pub first_content_kept : FirstContentKept
  pub counts_left_alone : CountsLeftAlone
