-- How long code is at most.
use Rattle.std.proofs.Common.{◌≡◌, ℕ, ◌+◌, ◌*◌, ◌^◌, ◌≤◌, ◌<◌, Bool, true, false, List, [], ◌∷◌, length, length-append, refl, arith}
use Rattle.std.specs.List.{list_all}
use Rattle.std.proofs.lemmas.Bool.Decides.{nat_tests}
use Rattle.dae_ir.specs.Code.{Done, Do, If, Loop}
use Rattle.dae_ir.specs.Sizes.{action_weight, actions_size}
use Rattle.dae_ir.specs.Streams.{Actions, actions_of}
use Rattle.dae_ir.specs.declared.stream.Action.{Action}
use Rattle.dae_ir.specs.declared.stream.Action.TheVariants.{Call}
use Rattle.dae_ir.specs.declared.stream.Stream.{Stream}
use Rattle.dae_ir.specs.declared.stream.StreamFunction.{StreamFunction}
use Rattle.dae_regalloc.specs.Seen.{count_places}
use Rattle.dae_select_walks.specs.Facts.{unknown}
use Rattle.dae_select_walks.specs.Live.{nowhere}
use Rattle.dae_select_walks.specs.Agrees.{Plan}
use Rattle.dae_select_blocks.specs.Blocks.{residents_code}
use Rattle.dae_select_walks.specs.declared.VariableStanding.TheVariants.{Settled}
use Rattle.dae_select_blocks.specs.Code.{code_of, function_code, entry_code, start_code, finish_code}
use Rattle.dae_select_blocks.specs.Sizes.{most_words_in, is_short}
use Rattle.dae_select_blocks.proofs.LawsOfBlocks.{append_short, code_length, entry_short, opening_short}
use Rattle.dae_link.specs.Placed.{functions_code, opening_code}
use Rattle.dae_link.specs.Settled.{is_numberable}
use Rattle.dae_link.specs.Sizes.{most_of_functions, most_words}

-- what a side begins with, where numbers that stay in registers take three words
pub opening_low : (plan : Plan) (main frames : ℕ) → length (residents_code 27 plan.residents) ≤ 3 → length (opening_code plan main frames) ≤ 11
opening_low plan main frames brief = let s = opening_short plan main frames in let l = length-append (start_code plan main frames) (finish_code plan.by_a) in omega arith

pub start_low : (plan : Plan) (main frames : ℕ) → length (residents_code 27 plan.residents) ≤ 3 → length (start_code plan main frames) ≤ 11
start_low plan main frames brief = let s = opening_low plan main frames brief in let l = length-append (start_code plan main frames) (finish_code plan.by_a) in omega arith

module _ (plan : Plan) (variables : ℕ → ℕ) (f : ℕ) where
  function_length : (code : Actions) → length (function_code plan variables f code) ≤ most_words_in code + 22
  function_length code =
      let h : length (function_code plan variables f code) ≤ 2 + most_words_in code
      = append_short (entry_code plan f) (code_of (is_short code) plan variables f Settled unknown code nowhere 0 0) 2 (most_words_in code) (entry_short plan f)
      (code_length (is_short code) plan variables f Settled unknown code nowhere 0 0) in omega arith

-- with three words less a function
pub functions_length : (plan : Plan) (variables : ℕ → ℕ) (fs : List StreamFunction) (k : ℕ) → length (functions_code plan variables k fs) + 3 * length fs ≤ most_of_functions fs
functions_length plan variables [] k = omega arith
functions_length plan variables (f ∷ fs) k =
    let one = function_length plan variables k (actions_of f.body) in let rest = functions_length plan variables fs (k + 1) in
    let both = length-append (function_code plan variables k (actions_of f.body)) (functions_code plan variables (k + 1) fs) in omega arith

-- each function has at least a word
pub functions_some : (fs : List StreamFunction) → 25 * length fs ≤ most_of_functions fs
functions_some [] = omega arith
functions_some (f ∷ fs) = let h = functions_some fs in omega arith

-- ---- places

heavy : (a : Action) → 1 ≤ action_weight a
heavy (Call v f xs) = omega arith
heavy a = omega arith

places_weigh : (code : Actions) → count_places code ≤ actions_size code
places_weigh Done = omega arith
places_weigh (Do m a k) = let h = heavy a in let r = places_weigh k in omega (arith, h, r)
places_weigh (If m b p q k) = let a = places_weigh p in let h = places_weigh q in let r = places_weigh k in omega (arith, a, h, r)
places_weigh (Loop m body step k) = let a = places_weigh body in let h = places_weigh step in let r = places_weigh k in omega (arith, a, h, r)

many_places : (fs : List StreamFunction) → list_all is_numberable fs ≡ false → 2 ^ 25 < most_of_functions fs
many_places [] none = cc
many_places (f ∷ fs) none = by (is_numberable f) refl (many_places fs)
  where
    by : (b : Bool) → is_numberable f ≡ b → (list_all is_numberable fs ≡ false → 2 ^ 25 < most_of_functions fs) → 2 ^ 25 < most_of_functions (f ∷ fs)
    by true is later = (let rest = later (rw is at none) in omega (arith, rest))
    by false is later =
        let most : 2 ^ 32 ≤ count_places (actions_of f.body) + 1 = grind (arith, nat_tests) in
        let weigh = places_weigh (actions_of f.body) in
        omega (arith, most, weigh)

-- where 32 bits don't number the places of a function, what bounds the code is beyond what an image can have
pub too_many_places : (stream : Stream) → list_all is_numberable stream.functions ≡ false → 2 ^ 25 < most_words stream
too_many_places stream none = let h = many_places stream.functions none in omega (arith, h)
