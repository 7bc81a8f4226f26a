-- The words of a side's code use the queues of its actions, and no others.
use Rattle.std.proofs.Common.{◌≡◌, ◌≢◌, ◌↔◌, ℕ, ◌+◌, List, [], ◌∷◌, map, Some, ap, sym, subst, ◌∙◌}
use Rattle.std.specs.List.{AllByRecursion}
use Rattle.std.specs.Prelude.{option_and_then}
use Rattle.dae_base.specs.declared.Queue.{Queue}
use Rattle.dae_base.specs.declared.Side.{Side}
use Rattle.dae_encode.proofs.Laws.{decode_encoded}
use Rattle.dae_encode.specs.Spelling.{InRange, encoded}
use Rattle.dae_encode.specs.declared.Inst.{Inst}
use Rattle.dae_ir.specs.Programs.{side}
use Rattle.dae_ir.specs.Streams.{actions_of}
use Rattle.dae_ir.specs.declared.stream.Stream.{Stream}
use Rattle.dae_ir.specs.declared.stream.StreamFunction.{StreamFunction}
use Rattle.dae_select_walks.specs.Agrees.{Plan}
use Rattle.dae_select_walks.specs.Homes.{IsHome}
use Rattle.dae_select_walks.specs.declared.Home.{Home}
use Rattle.dae_select_blocks.specs.Code.{function_code}
use Rattle.dae_link_faithful.specs.Uses.{queue_in, queue_at, IsUnused, LeavesAlone, AllOfSide, AllUntouched}
use Rattle.dae_link_faithful.proofs.LawsOfUses.{function_uses, start_uses, alone_append, alone_split}
use Rattle.dae_select_values.specs.Sides.{is_a}
use Rattle.dae_select_calls.specs.Layouts.{plan_of, variables_of}
use Rattle.dae_select_calls.specs.declared.layouts.Layouts.{Layouts}
use Rattle.dae_link.specs.Placed.{functions_code, opening_code}
use Rattle.dae_link.specs.Settled.{AreUnplaced}
use Rattle.dae_link.specs.Sides.{HasUsesOf, at_places, code_at}
use Rattle.dae_link.proofs.Sided.{plan_is, variables_are, good, code_fits, same_side}

-- ---- words

module _ (s : Side) (q : Queue) where
  same_queue : (i : Inst) → InRange i → queue_at s (encoded i) ≡ queue_in s i
  same_queue i h = ap (option_and_then (queue_in s)) (decode_encoded i h)

  words_alone : (is : List Inst) → AllByRecursion InRange is → AllByRecursion (λ (i : Inst). queue_in s i ≢ Some q) is → IsUnused s q (map encoded is)
  words_alone [] fit h = tt
  words_alone (i ∷ is) fit h = ((λ e. h.0 (sym (same_queue i fit.0) ∙ e)), words_alone is fit.1 h.1)

  alone_words : (is : List Inst) → AllByRecursion InRange is → IsUnused s q (map encoded is) → AllByRecursion (λ (i : Inst). queue_in s i ≢ Some q) is
  alone_words [] fit h = tt
  alone_words (i ∷ is) fit h = ((λ e. h.0 (same_queue i fit.0 ∙ e)), alone_words is fit.1 h.1)

-- ---- functions

module _ (plan : Plan) (variables : ℕ → ℕ) (homes : (f v : ℕ) → IsHome (variables f) (plan.home f v)) (q : Queue) where
  functions_alone : (fs : List StreamFunction) (k : ℕ) → AllOfSide plan.by_a fs → AllUntouched plan.by_a q fs → LeavesAlone plan.by_a q (functions_code plan variables k fs)
  functions_alone [] k is h = tt
  functions_alone (f ∷ fs) k is h =
      alone_append plan.by_a q (function_code plan variables k (actions_of f.body)) (functions_code plan variables (k + 1) fs)
      ((function_uses plan variables homes k (actions_of f.body) is.0 q).1 h.0) (functions_alone fs (k + 1) is.1 h.1)

  alone_functions : (fs : List StreamFunction) (k : ℕ) → AllOfSide plan.by_a fs → LeavesAlone plan.by_a q (functions_code plan variables k fs) → AllUntouched plan.by_a q fs
  alone_functions [] k is h = tt
  alone_functions (f ∷ fs) k is h =
      let two = alone_split plan.by_a q (function_code plan variables k (actions_of f.body)) (functions_code plan variables (k + 1) fs) h in
      ((function_uses plan variables homes k (actions_of f.body) is.0 q).0 two.0, alone_functions fs (k + 1) is.1 two.1)

-- ---- a whole side

module _ (stream : Stream) (old : Layouts) (unplaced : AreUnplaced stream old) where
  abbrev new : Layouts
  new = at_places stream old

  homes : (f v : ℕ) → IsHome (variables_of new f) ((plan_of new).home f v)
  homes f v =
      subst (λ (h : Home). IsHome (variables_of new f) h) (sym (ap (λ (p : Plan). p.home f v) (plan_is stream old unplaced)))
      (subst (λ (n : ℕ). IsHome n ((plan_of old).home f v)) (sym (ap (λ (ns : ℕ → ℕ). ns f) (variables_are stream old unplaced))) (good stream old unplaced f v))

  by_side : AllOfSide (is_a old.side) stream.functions → (q : Queue) → IsUnused (side (is_a old.side)) q (map encoded (code_at stream old)) ↔ AllUntouched (is_a old.side) q stream.functions
  by_side is q =
      let plan = plan_of new in
      let opening = opening_code plan stream.main stream.frames in
      let functions = functions_code plan (variables_of new) 0 stream.functions in
      let fit = code_fits stream old unplaced in (
        (λ unused. alone_functions plan (variables_of new) homes q stream.functions 0 is (alone_split plan.by_a q opening functions (alone_words (side plan.by_a) q (code_at stream old) fit unused)).1),
        (λ free. words_alone (side plan.by_a) q (code_at stream old) fit (alone_append plan.by_a q opening functions (start_uses plan stream.main stream.frames q) (functions_alone plan (variables_of new) homes q stream.functions 0 is free))),
      )

  pub code_used : HasUsesOf stream (map encoded (code_at stream old))
  code_used =
      subst (λ (s : Side). AllOfSide (is_a s) stream.functions → (q : Queue) → IsUnused s q (map encoded (code_at stream old)) ↔ AllUntouched (is_a s) q stream.functions) unplaced.side
      (subst (λ (s : Side). AllOfSide (is_a old.side) stream.functions → (q : Queue) → IsUnused s q (map encoded (code_at stream old)) ↔ AllUntouched (is_a old.side) q stream.functions) (same_side old.side) by_side)
