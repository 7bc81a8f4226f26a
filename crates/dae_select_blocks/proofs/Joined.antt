-- The blocks of calls and returns do them, where they stand.
use Rattle.std.proofs.Common.{◌≡◌, ◌≢◌, ℕ, ◌+◌, ◌*◌, ◌^◌, ◌<◌, ◌≤◌, Bool, true, false, not, ◌&&◌, ◌||◌, List, [], ◌++◌, Option, Some, None, length, refl, ap, ◌∙◌, subst, arith, append_assoc, length-append, sym}
use Rattle.std.proofs.lemmas.Bool.{or_right}
use Rattle.std.specs.Prelude.{pos}
use Rattle.dae_base.specs.Words.{plus, word}
use Rattle.dae_base.specs.declared.Side.TheVariants.{E}
use Rattle.dae_base.proofs.Laws.{plus_small, or_true}
use Rattle.dae_encode.specs.declared.Inst.{Inst}
use Rattle.dae_encode.specs.declared.Inst.TheVariants.{Addi}
use Rattle.dae_encode.specs.declared.Halt.TheVariants.{Status}
use Rattle.dae_encode.specs.Processor.{Processor}
use Rattle.dae_ir.specs.Classes.{VariableSet}
use Rattle.dae_meaning.specs.Variables.{Env}
use Rattle.dae_ir.specs.Form.{Program, value}
use Rattle.dae_ir.specs.Programs.{side}
use Rattle.dae_ir.specs.Deeds.{Plainly, WithStatus, Halts}
use Rattle.dae_ir.specs.declared.form.Operand.{Operand}
use Rattle.dae_ir.specs.declared.stream.Argument.{Argument}
use Rattle.dae_ir.specs.declared.stream.Action.TheVariants.{Call, Return}
use Rattle.dae_select_walks.specs.Walks.{WalkSetting, Comes}
use Rattle.dae_select_walks.specs.Does.{Does}
use Rattle.dae_select_walks.specs.Layout.{CodeAt}
use Rattle.dae_select_walks.specs.Live.{in_option, in_arguments, is, before}
use Rattle.dae_select_walks.specs.Facts.{unknown}
use Rattle.dae_select_walks.specs.Homes.{Contents}
use Rattle.dae_select_walks.specs.Agrees.{Plan, Moment, Stands, AreWaiting, IsWithin, return_address}
use Rattle.dae_select_walks.specs.Compiled.{Exits, exit, ways_of, At, MainEnds, waiting_of, called, result_of, with_env, with_result, Lands}
use Rattle.dae_select_walks.proofs.LawsOfWalks.{nears_here, comes_map, comes_then, comes_does, does_map}
use Rattle.dae_select_walks.proofs.LawsOfWalks.{put, step_ends, step_stops}
use Rattle.dae_select_blocks.specs.Blocks.{arguments_code, save_code, restore_code, deeper_code, enter_code, back_code, result_code, leave_code, enter_words, parameters_code}
use Rattle.dae_select_blocks.specs.Code.{registers_in, entry_code, finish_code, call_code, unspared}
use Rattle.dae_select_blocks.specs.Fits.{Fits}
use Rattle.dae_select_blocks.specs.Wanted.{IsLinked, IsPlanOf}
use Rattle.dae_select_blocks.proofs.Plain.{computes}
use Rattle.dae_select_blocks.proofs.Runs.{Runs, runs_quiet, runs_halt, code_take, code_drop}
use Rattle.dae_select_blocks.proofs.Computing.{plus_zero}
use Rattle.dae_select_blocks.proofs.Whole.{Stood, Done'}
use Rattle.dae_select_blocks.proofs.Jumps.{ready}
use Rattle.dae_select_blocks.proofs.Lengths.{enter_long, enter_few}
use Rattle.dae_select_blocks.proofs.Entering.{prepares, enters}
use Rattle.dae_select_blocks.proofs.Leaving.{leaves, return_done, resumes, Goes'}

module _ (s : WalkSetting) (plan : Plan) (variables : ℕ → ℕ) (fine : Fits s plan variables) (program : Program) (is_plan : IsPlanOf program plan) (entries : ℕ → VariableSet) (linked : IsLinked s plan) (most widest : ℕ) where
  -- main returns
  finishes : (m : Moment) (y : Option Operand) (p : Processor) (n : ℕ) → Comes s n p (Goes' s plan variables fine m plan.finish (result_of y m.env) plan.finish) → n + 3 ≤ most → (b : Bool) → plan.by_a ≡ b → CodeAt s.code plan.finish (finish_code b) → MainEnds b y m.env (λ quit. Does s most (Halts quit) (λ env q. ⊥) p)
  finishes m y p n c short true e at =
      let to : Env → Processor → Type 0 = λ env q. ⊥ in
      let l : n + 1 ≤ most = omega arith in
      does_map s to to (n + 1) most l (λ env q t. t) (Halts Plainly) p
      (comes_does s to n 1 (Halts Plainly) c (λ q g. nears_here s 0 (omega arith) (step_stops s plan.private (fine.side ∙ ap side e) at.0 g.shows at.1 at.2)))
  finishes m None p n c short false e at = tt
  finishes m (Some x) p n c short false e at =
      let to : Env → Processor → Type 0 = λ env q. ⊥ in
      let to' : ℕ → Env → Processor → Type 0 = λ k env q. ⊥ in
      let by_e : s.side ≡ E = fine.side ∙ ap side e in
      let low = linked.low in
      does_map s to to (n + 3) most short (λ env q t. t) (Halts (WithStatus (value x m.env))) p
      (comes_does s to n 3 (Halts (WithStatus (value x m.env))) c (λ q g.
      let got = g.given (value x m.env) refl in
      let small : value x m.env < 2 ^ 32 = (let a = g.shows.fits 6 in rw got at a) in
      let same : plus (g.contents.register 6) (word (pos 0)) ≡ value x m.env = rw got (plus_zero (value x m.env) small) in
      let c1 : Contents = put 10 (value x m.env) g.contents in
      let none : plus (c1.register 0) (word (pos 0)) ≡ 0 = (let z = g.shows.zero in rw z refl) in
      let run : Runs s plan.private to' (finish_code false) g.contents (Halts (WithStatus (value x m.env))) =
      runs_quiet s plan.private to' (computes s plan.private to' (Addi 10 6 (pos 0)) 10 6 0 (λ x y. plus x (word (pos 0))) refl (omega arith) (omega arith) (omega arith) (plus_small (g.contents.register 6) 0)) (rw same (
      runs_quiet s plan.private to' (computes s plan.private to' (Addi 17 0 (pos 0)) 17 0 0 (λ x y. plus x (word (pos 0))) refl (omega arith) (omega arith) (omega arith) (plus_small (c1.register 0) 0)) (rw none (
      runs_halt s plan.private to' (λ k w small here is r shows. step_ends s plan.private by_e w 0 (Status (value x m.env)) shows here is refl (omega arith) (λ q. refl)))))) in
      run.from plan.finish (omega arith) at q g.shows))

  pub returns_done : (short : Bool) (f : ℕ) (y : Option Operand) (k : VariableSet) (x : Exits) (leaves' skips here : ℕ) → length (leave_code plan.by_a (plan.leaf f) (plan.home f) y) + 3 ≤ most → Stood s plan variables fine program is_plan entries most widest short f (Return y) k (ways_of x) leaves' skips here → Done' s plan variables fine program is_plan entries most widest short f unknown (Return y) k x leaves' skips here
  returns_done short f y k x leaves' skips here brief' t m p h =
      let stands : CodeAt s.code here (leave_code plan.by_a (plan.leaf m.function) (plan.home m.function) y) = (let a = t.stands in rw h.0 a) in
      let small : here + length (leave_code plan.by_a (plan.leaf m.function) (plan.home m.function) y) < 2 ^ 29 = (let a = t.small in rw h.0 a) in
      let brief : length (leave_code plan.by_a (plan.leaf m.function) (plan.home m.function) y) + 3 ≤ most = rw h.0 brief' in
      let reads : (u : ℕ) → in_option y u ≡ true → before (Return y) k (ways_of x) u ≡ true = λ u e. rw e refl in
      let low = linked.low in (
        (λ none. (let a = h.1.agrees.waiting in let b : AreWaiting plan h.1.contents (plan.spares m.function) (return_address plan m.function h.1.contents h.1.agrees.base) h.1.agrees.base m.frame [] = rw none at a in
            finishes m y p (length (leave_code plan.by_a (plan.leaf m.function) (plan.home m.function) y)) (leaves s plan variables fine y plan.finish h.1 t.wanted reads (omega arith) b.2 small stands) brief plan.by_a refl linked.finish)),
        (λ w ws is. comes_map s most (omega arith) (λ q g. subst (λ (z : ℕ). Lands plan z w ws (result_of y m.env) q) h.0 g) (return_done s plan variables fine y w ws h.1 is t.wanted reads small stands)),
      )

  -- a call, up to the jump, and from the word behind it
  abbrev prepared_code : ℕ → ℕ → List Argument → VariableSet → List Inst
  prepared_code f g xs live = arguments_code plan f g xs ++ (save_code (registers_in (plan.home f) (variables f) (unspared plan f g live)) ++ (parameters_code plan f g xs ++ deeper_code plan f g))

  abbrev resumed_code : ℕ → ℕ → Option ℕ → VariableSet → List Inst
  resumed_code f g v live = back_code plan f g ++ (restore_code (registers_in (plan.home f) (variables f) (unspared plan f g live)) ++ result_code (plan.home f) v)

  abbrev without : Option ℕ → VariableSet → VariableSet
  without v k u = k u && not (is v u)

  abbrev pub back_of : ℕ → ℕ → ℕ → List Argument → Option ℕ → VariableSet → ℕ
  back_of here f g xs v k = here + length (prepared_code f g xs (without v k)) + enter_words plan.near

  whole_length : (f g : ℕ) (v : Option ℕ) (xs : List Argument) (k : VariableSet) → length (call_code plan variables f v g xs (without v k)) ≡ length (prepared_code f g xs (without v k)) + enter_words plan.near + length (resumed_code f g v (without v k))
  whole_length f g v xs k =
      let rs = registers_in (plan.home f) (variables f) (unspared plan f g (without v k)) in
      let rest : List Inst = resumed_code f g v (without v k) in
      let jumped : List Inst = enter_code plan.near (plan.entry g) ++ rest in
      let passed : List Inst = parameters_code plan f g xs in
      let l1 = length-append (arguments_code plan f g xs) (save_code rs ++ (passed ++ (deeper_code plan f g ++ jumped))) in
      let l2 = length-append (save_code rs) (passed ++ (deeper_code plan f g ++ jumped)) in
      let l3 = length-append passed (deeper_code plan f g ++ jumped) in
      let l4 = length-append (deeper_code plan f g) jumped in
      let l5 = length-append (enter_code plan.near (plan.entry g)) rest in
      let jump = enter_long plan.near (plan.entry g) in
      let l6 = length-append (arguments_code plan f g xs) (save_code rs ++ (passed ++ deeper_code plan f g)) in
      let l7 = length-append (save_code rs) (passed ++ deeper_code plan f g) in
      let l8 = length-append passed (deeper_code plan f g) in
      omega arith

  -- up to the jump, and on
  parted : (f g : ℕ) (xs : List Argument) (live : VariableSet) (is : List Inst) → prepared_code f g xs live ++ is ≡ arguments_code plan f g xs ++ (save_code (registers_in (plan.home f) (variables f) (unspared plan f g live)) ++ (parameters_code plan f g xs ++ (deeper_code plan f g ++ is)))
  parted f g xs live is =
      let kept : List Inst = save_code (registers_in (plan.home f) (variables f) (unspared plan f g live)) in
      let passed : List Inst = parameters_code plan f g xs in
      append_assoc (arguments_code plan f g xs) (kept ++ (passed ++ deeper_code plan f g)) is
      ∙ (ap (λ (code : List Inst). arguments_code plan f g xs ++ code) (append_assoc kept (passed ++ deeper_code plan f g) is)
      ∙ ap (λ (code : List Inst). arguments_code plan f g xs ++ (kept ++ code)) (append_assoc passed (deeper_code plan f g) is))

  pub calls_done : (short : Bool) (f g : ℕ) (v : Option ℕ) (xs : List Argument) (k : VariableSet) (x : Exits) (leaves' skips here : ℕ) →
      length (prepared_code f g xs (without v k)) + 2 + length (entry_code plan g) ≤ widest + 6 * length xs → length (resumed_code f g v (without v k)) ≤ 3 * most →
      Stood s plan variables fine program is_plan entries most widest short f (Call v g xs) k (ways_of x) leaves' skips here → Done' s plan variables fine program is_plan entries most widest short f unknown (Call v g xs) k x leaves' skips here
  calls_done short f g v xs k x leaves' skips here wide brief t =
      let live : VariableSet = before (Call v g xs) k (ways_of x) in
      let prep : List Inst = prepared_code f g xs (without v k) in
      let rest : List Inst = resumed_code f g v (without v k) in
      let small = t.small in
      let total = whole_length f g v xs k in
      let few = enter_few plan.near in
      let at' : CodeAt s.code here (prep ++ (enter_code plan.near (plan.entry g) ++ rest)) = subst (λ (is : List Inst). CodeAt s.code here is) (sym (parted f g xs (without v k) (enter_code plan.near (plan.entry g) ++ rest))) t.stands in
      let first = code_take s.code here prep (enter_code plan.near (plan.entry g) ++ rest) at' in
      let second = code_drop s.code here prep (enter_code plan.near (plan.entry g) ++ rest) at' in
      let jump = code_take s.code (here + length prep) (enter_code plan.near (plan.entry g)) rest second in
      let third : CodeAt s.code (here + length prep + enter_words plan.near) rest =
      subst (λ (n : ℕ). CodeAt s.code (here + length prep + n) rest) (enter_long plan.near (plan.entry g)) (code_drop s.code (here + length prep) (enter_code plan.near (plan.entry g)) rest second) in
      let scope : (u : ℕ) → live u ≡ true → u < variables f = λ u e. t.right.scope u (rw e refl) in
      let keeps : (u : ℕ) → (k u && not (is v u)) ≡ true → live u ≡ true = λ u e. rw e (or_true (in_arguments xs u)) in (
        back_of here f g xs v k,
        (λ m p h within.
            let h0 = ready s plan variables fine h.1 in
            let e = h.0 in
            subst (λ (j : ℕ). Comes s (widest + 6 * length xs) p (At s plan program entries most widest g (exit (plan.start g) (entries g)) (called plan g xs (waiting_of v k (back_of here j g xs v k) m) m))) e (
            let prep' : List Inst = prepared_code m.function g xs (without v k) in
            let first' : CodeAt s.code here prep' = rw e first in
            let jump' : CodeAt s.code (here + length prep') (enter_code plan.near (plan.entry g)) = rw e jump in
            let scope' : (u : ℕ) → live u ≡ true → u < variables m.function = rw e scope in
            let wide' : length prep' + 2 + length (entry_code plan g) ≤ widest + 6 * length xs = rw e wide in
            let fits : here + length prep' + enter_words plan.near < 2 ^ 29 = rw e (omega arith) in
            let calls' : plan.leaf m.function ≡ false = (let a = t.wanted.4 in rw e a) in
            let within' : IsWithin plan (called plan g xs (waiting_of v k (here + length prep' + enter_words plan.near) m) m) = record { depth = within.depth; frame = within.frame } in
            let both = comes_then s (prepares s plan variables fine entries linked v k g xs (waiting_of v k (here + length prep' + enter_words plan.near) m) h.1 refl (λ u e. rw e refl) keeps scope' t.wanted.0 t.wanted.3 calls' within' (omega arith) first')
            (λ q prepared. enters s plan variables fine entries linked v k g xs h0 t.wanted.1 t.wanted.2 fits within' jump' prepared) in
            comes_map s (widest + 6 * length xs) (omega arith) (λ q z. (refl, z)) both)),
        (λ m result p e within answered l.
            let next : ℕ = here + length (call_code plan variables f v g xs (without v k)) in
            let rest' : List Inst = resumed_code m.function g v (without v k) in
            let third' : CodeAt s.code (back_of here f g xs v k) rest' = rw e third in
            let brief' : length rest' ≤ 3 * most = rw e brief in
            let end' : back_of here f g xs v k + length rest' ≡ next = rw e (omega arith) in
            let apart : (u z : ℕ) → is v z ≡ true → k u ≡ true → u ≢ z → plan.home m.function u ≢ plan.home m.function z = rw e (λ u z sets' l ne. t.right.apart u z (rw l (open' (in_arguments xs u) (is v u))) (or_right (before (Call v g xs) k (ways_of x) z) (is v z) sets') ne) in
            let scope' : (u : ℕ) → k u ≡ true → is v u ≡ false → u < variables m.function = rw e (λ u l ne. scope u (rw (l, ne) (or_true (in_arguments xs u)))) in
            let calls' : plan.leaf m.function ≡ false = (let a = t.wanted.4 in rw e a) in
            let own : (z : ℕ) → is v z ≡ true → z < variables m.function = rw e (λ z sets'. t.right.scope z (or_right (before (Call v g xs) k (ways_of x) z) (is v z) sets')) in
            comes_map s (3 * most) brief' (λ q z. (e, subst (λ (j : ℕ). Stands plan k (with_env (with_result v result m.env) m) j q) end' z))
            (resumes s plan variables fine v g k (back_of here f g xs v k) result within answered scope' own apart calls' l (rw end' (omega arith)) third')),
      )
    where
      open' : (b c : Bool) → ((b || (true && not c)) || c) ≡ true
      open' true c = refl
      open' false true = refl
      open' false false = refl
