use Rattle.dae_cli_words.proofs.Choices.{all_depths}
use Rattle.dae_cli_words.proofs.values.depths_of.Goals as goal

pub returns-clause-ranges : goal.returns-clause-ranges
returns-clause-ranges c =
    all_depths _ c.in_ok-depth_in.ensures.range c.in_ok-depth_in-2.ensures.range c.in_ok-depth_in-3.ensures.range c.in_ok-depth_in-4.ensures.range
    c.in_ok-depth_in-5.ensures.range c.in_ok-depth_in-6.ensures.range c.in_ok-depth_in-7.ensures.range
