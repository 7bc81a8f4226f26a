-- Each block does its action.
use Rattle.std.proofs.Common.{◌≡◌, ◌≢◌, ℕ, ◌^◌, ◌<◌, true, false, ◌&&◌, List, [], ◌∷◌, ◌++◌, Some, refl, arith, append-nil}
use Rattle.std.specs.Prelude.{nat_lt, ℤ, pos}
use Rattle.std.proofs.lemmas.Bool.Decides.{nat_tests}
use Rattle.dae_base.specs.Words.{plus, word}
use Rattle.dae_base.specs.declared.Side.TheVariants.{A, E}
use Rattle.dae_base.specs.declared.Queue.{Queue}
use Rattle.dae_base.specs.declared.Queue.TheVariants.{Ld, Al, Sd, Cq}
use Rattle.dae_base.specs.declared.Width.{Width}
use Rattle.dae_base.specs.declared.Width.TheVariants.{B1, B2, B4}
use Rattle.dae_base.specs.declared.LoadKind.{LoadKind}
use Rattle.dae_base.specs.declared.LoadKind.TheVariants.{I8, U8, I16, U16, I32}
use Rattle.dae_encode.specs.declared.Inst.{Inst}
use Rattle.dae_encode.specs.declared.QueueUse.TheVariants.{Take as Takes, Push as Pushes}
use Rattle.dae_encode.specs.declared.InstructionForm.TheVariants.{Computes}
use Rattle.dae_encode.specs.Instructions.{effect, DoesLoad, DoesStore}
use Rattle.dae_encode.specs.Uses.{queue_use}
use Rattle.dae_encode.specs.Processor.{Processor}
use Rattle.dae_ir.specs.Classes.{VariableSet}
use Rattle.dae_meaning.specs.Variables.{Env}
use Rattle.dae_ir.specs.Form.{value, computed}
use Rattle.dae_meaning.specs.Variables as form
use Rattle.dae_ir.specs.Deeds.{Deed, Went, Take, Push, Reserve, Send, told_on}
use Rattle.dae_ir.specs.declared.form.Operand.{Operand}
use Rattle.dae_ir.specs.declared.form.Operand.TheVariants.{Variable}
use Rattle.dae_ir.specs.declared.form.Value.{Value}
use Rattle.dae_select_walks.specs.Walks.{WalkSetting}
use Rattle.dae_select_walks.specs.Live.{in_operand, in_value}
use Rattle.dae_select_walks.specs.Homes.{Contents}
use Rattle.dae_select_walks.specs.Agrees.{Plan, Moment, Stands}
use Rattle.dae_select_walks.specs.Compiled.{with_env}
use Rattle.dae_select_walks.proofs.LawsOfWalks.{put, step_shared, step_address}
use Rattle.dae_select_blocks.specs.Blocks.{register_or, source, fetch, keep, value_code, issue_code, address_code, take_code, move_code}
use Rattle.dae_select_blocks.specs.Fits.{Fits}
use Rattle.dae_select_blocks.proofs.Plain.{takes, pushes}
use Rattle.dae_select_blocks.proofs.Runs.{Runs, runs_nothing, runs_push, runs_take, runs_reserve, runs_send}
use Rattle.dae_select_blocks.proofs.Agreement.{Ready, ready_gets, ready_like, slot_framed}
use Rattle.dae_select_blocks.proofs.Operands.{runs_keep, runs_move}
use Rattle.dae_select_blocks.specs.Wanted.{IsNumber, AreNumbers}
use Rattle.dae_select_blocks.proofs.Computing.{plus_zero, register_plain, source_plain, is_scratch, runs_one, runs_value}
use Rattle.dae_select_blocks.proofs.Uses.{takes_load, takes_own, takes_copy, pushes_datum, pushes_copy, pushes_message, issues, issues_own, gives_address}

pub issue_is : (kind : LoadKind) (queue base : ℕ) (offset : ℤ) → effect (issue_code kind queue base offset) ≡ DoesLoad kind queue base (word offset)
issue_is I8 queue base offset = refl
issue_is U8 queue base offset = refl
issue_is I16 queue base offset = refl
issue_is U16 queue base offset = refl
issue_is I32 queue base offset = refl

pub address_is : (width : Width) (base : ℕ) (offset : ℤ) → effect (address_code width base offset) ≡ DoesStore width base 30 (word offset)
address_is B1 base offset = refl
address_is B2 base offset = refl
address_is B4 base offset = refl

module _ (s : WalkSetting) (plan : Plan) (variables : ℕ → ℕ) (fine : Fits s plan variables) (live live' : VariableSet) (m : Moment) where
  -- behind the block the processor agrees with the moment that has these variables
  abbrev pub To : ℕ → Env → Processor → Type 0
  To k env p = Stands plan live' (with_env env m) k p

  abbrev pub Does' : List Inst → Contents → Deed → Type 0
  Does' is c d = Runs s plan.private To is c d

  pub ends : {c : Contents} (env : Env) → Ready plan live' (with_env env m) c → Does' [] c (Went env)
  ends {c} env h = runs_nothing s plan.private To (λ k p shows. record { contents = c; shows = shows; agrees = h.agrees })

  -- what is live behind is live before
  abbrev pub Stays : Type 0
  Stays = (u : ℕ) → live' u ≡ true → live u ≡ true

  pub ready_stays : {c : Contents} → Stays → Ready plan live m c → Ready plan live' m c
  ready_stays stays h =
      let a = h.agrees in
      record {
        zero = h.zero;
        fits = h.fits;
        small = h.small;
        agrees = record { base = a.base; variables = λ v l. a.variables v (stays v l); pointer = a.pointer; frame = a.frame; depth = a.depth; addresses = a.addresses; residents = a.residents; waiting = a.waiting; room = a.room; within = a.within };
      }

  -- all but v, which is set, is live before, and in another home than v, which is one of the variables
  abbrev pub Apart : ℕ → Type 0
  Apart v = ((u : ℕ) → live' u ≡ true → u ≢ v → (live u ≡ true) × (plan.home m.function u ≢ plan.home m.function v)) × (v < variables m.function)

  abbrev pub Reads : Operand → Type 0
  Reads x = (u : ℕ) → in_operand x u ≡ true → live u ≡ true

  -- a result goes home, and the block ends
  pub kept : {c : Contents} (v x : ℕ) → Ready plan live m c → Apart v → x < 2 ^ 32 → Does' (keep (plan.home m.function v)) (put (register_or 5 (plan.home m.function v)) x c) (Went (form.put true v x m.env))
  kept {c} v x h apart fits =
      let run = runs_keep s plan variables fine To {d = Went (form.put true v x m.env)} (plan.home m.function v) x [] h (fine.homes m.function v) (λ i e. slot_framed s plan variables fine m.function v i e) fits
      (λ c' g. ends (form.put true v x m.env) (ready_gets s plan variables fine v x apart.1 h g apart.0)) in
      rw append-nil at run

  -- VariableSet
  pub set_done : {c : Contents} (v : ℕ) (x : Value) → Ready plan live m c → ((u : ℕ) → in_value x u ≡ true → live u ≡ true) → AreNumbers x → Apart v →
      Does' (value_code (plan.home m.function) (register_or 5 (plan.home m.function v)) x ++ keep (plan.home m.function v)) c (Went (form.put true v (computed x m.frame m.env) m.env))
  set_done v x h reads number apart =
      let home = plan.home m.function v in let good = fine.homes m.function v in
      runs_value s plan variables fine To (register_or 5 home) x (keep home) (register_plain s plan variables fine To (variables m.function) 5 home good (omega arith)) h reads number
      (λ c1 h1 fits. kept v (computed x m.frame m.env) h1 apart fits)

  -- Receive, Accept, and the end of Own: the front of a queue goes home
  pub taken : {c : Contents} (v q : ℕ) (queue : Queue) → nat_lt q 28 ≡ false → ((t : ℕ) → t < 28 → queue_use s.copies s.side (Computes t q 0) ≡ Some (Takes queue)) → Ready plan live m c → Apart v →
      Does' (take_code q (plan.home m.function v)) c (Take queue (λ y. Went (form.put true v y m.env)))
  taken {c} v q queue high legal h apart =
      let home = plan.home m.function v in let good = fine.homes m.function v in
      let plain = register_plain s plan variables fine To (variables m.function) 5 home good (omega arith) in
      runs_take s plan.private To (λ x. put (register_or 5 home) x c) (λ x fits. takes s plan.private To (register_or 5 home) q queue plain high (legal (register_or 5 home) plain) x fits)
      (λ x fits. kept v x h apart fits)

  -- Datum, Tell, Offer: an operand goes into a queue
  pub pushed : {c : Contents} (q : ℕ) (queue : Queue) (x : Operand) → (nat_lt 0 q && nat_lt q 28) ≡ false → ((r : ℕ) → r < 28 → queue_use s.copies s.side (Computes q r 0) ≡ Some (Pushes queue)) → Ready plan live m c → Reads x → IsNumber x → Stays →
      Does' (move_code (plan.home m.function) q x) c (Push queue (value x m.env) (Went m.env))
  pushed q queue x high legal h reads number stays =
      let run = runs_move s plan variables fine To {d = Push queue (value x m.env) (Went m.env)} q x [] h reads number (λ c1 r imm like plain same small.
      let h1 = ready_like s plan variables fine 5 (is_scratch plan 5 (omega arith) (omega arith)) like h in
      runs_push s plan.private To (pushes s plan.private To q r imm queue (value x m.env) plain high (legal r plain) same) small (ends m.env (ready_stays stays h1))) in
      rw append-nil at run

  -- an address in a register is the operand's value
  addressed : {c : Contents} (x : Operand) → Ready plan live m c → c.register (source (plan.home m.function) 5 x) ≡ value x m.env → plus (c.register (source (plan.home m.function) 5 x)) (word (pos 0)) ≡ value x m.env
  addressed x h got = let small : value x m.env < 2 ^ 32 = (let a = h.fits (source (plan.home m.function) 5 x) in rw got at a) in rw got (plus_zero (value x m.env) small)

  module _ (by_a : s.side ≡ A) where
    -- Issue
    pub issue_done : {c : Contents} (kind : LoadKind) (x : Operand) → Ready plan live m c → Reads x → IsNumber x → Stays →
        Does' (fetch (plan.home m.function) 5 x ++ issue_code kind 30 (source (plan.home m.function) 5 x) (pos 0) ∷ []) c (Reserve Ld kind (value x m.env) (Went m.env))
    issue_done kind x h reads number stays =
        runs_one s plan variables fine To x (issue_code kind 30 (source (plan.home m.function) 5 x) (pos 0) ∷ []) h reads number (λ c1 h1 got.
        let r = source (plan.home m.function) 5 x in let plain = source_plain s plan variables fine To m.function 5 x (omega arith) in
        runs_reserve s plan.private To (λ good k w small here is p shows. step_shared s plan.private (issue_code kind 30 r (pos 0)) kind Ld 30 r (word (pos 0)) (value x m.env) w shows here is small (issue_is kind 30 r (pos 0)) (rw by_a (issues s.copies kind r (word (pos 0)) plain)) plain (addressed x h1 got) good) (ends m.env (ready_stays stays h1)))

    -- Own
    pub own_done : {c : Contents} (v : ℕ) (kind : LoadKind) (x : Operand) → Ready plan live m c → Reads x → IsNumber x → Apart v →
        Does' (fetch (plan.home m.function) 5 x ++ issue_code kind 31 (source (plan.home m.function) 5 x) (pos 0) ∷ take_code 31 (plan.home m.function v)) c (Reserve Al kind (value x m.env) (Take Al (λ y. Went (form.put true v y m.env))))
    own_done v kind x h reads number apart =
        runs_one s plan variables fine To x (issue_code kind 31 (source (plan.home m.function) 5 x) (pos 0) ∷ take_code 31 (plan.home m.function v)) h reads number (λ c1 h1 got.
        let r = source (plan.home m.function) 5 x in let plain = source_plain s plan variables fine To m.function 5 x (omega arith) in
        runs_reserve s plan.private To (λ good k w small here is p shows. step_shared s plan.private (issue_code kind 31 r (pos 0)) kind Al 31 r (word (pos 0)) (value x m.env) w shows here is small (issue_is kind 31 r (pos 0)) (rw by_a (issues_own s.copies kind r (word (pos 0)) plain)) plain (addressed x h1 got) good)
        (taken v 31 Al refl (λ t l. rw by_a (takes_own s.copies t l)) h1 apart))

    -- Address
    pub address_done : {c : Contents} (width : Width) (x : Operand) → Ready plan live m c → Reads x → IsNumber x → Stays →
        Does' (fetch (plan.home m.function) 5 x ++ address_code width (source (plan.home m.function) 5 x) (pos 0) ∷ []) c (Send width (value x m.env) (Went m.env))
    address_done width x h reads number stays =
        runs_one s plan variables fine To x (address_code width (source (plan.home m.function) 5 x) (pos 0) ∷ []) h reads number (λ c1 h1 got.
        let r = source (plan.home m.function) 5 x in let plain = source_plain s plan variables fine To m.function 5 x (omega arith) in
        runs_send s plan.private To (λ good k w small here is p shows. step_address s plan.private (address_code width r (pos 0)) width r 30 (word (pos 0)) (value x m.env) w shows here is small (address_is width r (pos 0)) (rw by_a (gives_address s.copies width r (word (pos 0)) plain)) plain (addressed x h1 got) good) (ends m.env (ready_stays stays h1)))

    -- Offer
    pub offer_done : {c : Contents} (v : ℕ) → s.copies ≡ true → Ready plan live m c → live v ≡ true → Stays → Does' (move_code (plan.home m.function) 28 (Variable v)) c (Push Cq (m.env v) (Went m.env))
    offer_done v copies h reads stays = pushed 28 Cq (Variable v) refl (λ r l. rw (by_a, copies) (pushes_copy r l)) h (λ u e. (let same : u ≡ v = grind (arith, nat_tests) in rw same reads)) tt stays

  module _ (by_e : s.side ≡ E) where
    pub receive_done : {c : Contents} (v : ℕ) → Ready plan live m c → Apart v → Does' (take_code 30 (plan.home m.function v)) c (Take Ld (λ y. Went (form.put true v y m.env)))
    receive_done v h apart = taken v 30 Ld refl (λ t l. rw by_e (takes_load s.copies t l)) h apart

    pub accept_done : {c : Contents} (v : ℕ) → s.copies ≡ true → Ready plan live m c → Apart v → Does' (take_code 28 (plan.home m.function v)) c (Take Cq (λ y. Went (form.put true v y m.env)))
    accept_done v copies h apart = taken v 28 Cq refl (λ t l. rw (by_e, copies) (takes_copy t l)) h apart

    pub datum_done : {c : Contents} (x : Operand) → Ready plan live m c → Reads x → IsNumber x → Stays → Does' (move_code (plan.home m.function) 30 x) c (Push Sd (value x m.env) (Went m.env))
    datum_done x h reads number stays = pushed 30 Sd x refl (λ r l. rw by_e (pushes_datum s.copies r l)) h reads number stays

  -- Tell, on both sides
  pub tell_done : {c : Contents} (x : Operand) → Ready plan live m c → Reads x → IsNumber x → Stays → Does' (move_code (plan.home m.function) 29 x) c (Push (told_on plan.by_a) (value x m.env) (Went m.env))
  tell_done x h reads number stays = pushed 29 (told_on plan.by_a) x refl (λ r l. rw fine.side (pushes_message s.copies plan.by_a r l)) h reads number stays
