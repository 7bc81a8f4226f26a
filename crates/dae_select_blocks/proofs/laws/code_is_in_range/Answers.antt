use Rattle.dae_select_blocks.proofs.Ranges.{fit_append}
use Rattle.dae_select_blocks.proofs.Fitted.{function_fits, start_fits, finish_fits}
use Rattle.dae_select_blocks.proofs.laws.code_is_in_range.Goals as goal

pub returns-clause-function : goal.returns-clause-function
returns-clause-function c = λ plan variables good f code. function_fits plan variables good f code

pub returns-clause-start : goal.returns-clause-start
returns-clause-start c = λ plan main frames. fit_append _ _ (start_fits plan main frames) (finish_fits plan.by_a)
