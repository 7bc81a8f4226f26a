use Rattle.dae_select_walks.specs.Live.{nowhere}
use Rattle.dae_select_walks.proofs.Lives.{turn_again}
use Rattle.dae_select_walks.proofs.Paths.{live_path, path_live}
use Rattle.dae_select_walks.proofs.SetBefore.{live_set}
use Rattle.dae_select_walks.proofs.laws.live_is_read.Goals as goal

pub returns : goal.returns
returns c = record {
  path = live_path;
  live = λ code x u h. path_live x h;
  again = turn_again;
  set = λ code d first u h. live_set code d nowhere first (λ v e. absurd cc) (λ v e. absurd cc) (λ v e. absurd cc) u h;
}
