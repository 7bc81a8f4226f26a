-- The code of statements and functions is marked as what is wanted of them says, and has the tests that are counted in them.
use Rattle.std.proofs.Common.{◌≡◌, ℕ, zero, suc, ◌+◌, ◌<◌, ◌≤◌, inl, inr, Bool, true, false, ◌&&◌, ◌||◌, nat_eq, if◌then◌else◌, List, [], ◌∷◌, Option, Some, None, refl, ap, sym, ◌∙◌, subst, arith}
use Rattle.std.proofs.lemmas.Bool.Decides.{nat_tests}
use Rattle.std.proofs.lemmas.Bool.{or_right, or_left, and_from}
use Rattle.dae_base.specs.declared.Place.{Place}
use Rattle.dae_base.proofs.Laws.{same_number, and_first, and_second}
use Rattle.dae_ir.specs.Code.{Done, Do, If, Each}
use Rattle.dae_ir.specs.Form.{Form}
use Rattle.dae_ir.specs.Classes.{VariableSet, has, AddressesKept}
use Rattle.dae_ir.specs.Sizes.{bit}
use Rattle.dae_ir.specs.declared.form.Item.{Item}
use Rattle.dae_ir.specs.declared.form.Item.TheVariants.{Assign, Store, Print, Break, Continue, Return}
use Rattle.dae_ir.specs.declared.form.Operand.{Operand}
use Rattle.dae_ir.specs.declared.form.Operand.TheVariants.{Variable, Number}
use Rattle.dae_ir.specs.declared.form.Value.TheVariants.{FrameAddress}
use Rattle.dae_meaning.specs.declared.Spelling.TheVariants.{Byte}
use Rattle.dae_meaning.specs.declared.Comparison.TheVariants.{AtLeastUnsigned}
use Rattle.dae_program.specs.Lawful.{FunctionBounds, is_sound, are_sound, is_sound_some, are_sound_items, are_sound_statements, are_sound_arms, takes}
use Rattle.dae_program.specs.Printing.{argument}
use Rattle.dae_program.specs.Switches.{arm_with, count_arms}
use Rattle.dae_program.specs.Wanted.{Wants, is_text, KeepPrinted, KeepSome, KeepItems, KeepStatements, KeepArms, wanted, wanted_printed, wanted_some, wanted_in, wanted_in_arms, is_open, open_in_all, open_in_some, open_test, open_some, count_tests, open_statements, open_arms}
use Rattle.dae_program.specs.Trees as tree
use Rattle.dae_program.specs.Trees.{Expression, Expressions, Setting, Statements, Arms}
use Rattle.dae_program.specs.declared.program.FrameSlot.{FrameSlot}
use Rattle.dae_program.specs.declared.statements.FormatPiece.{FormatPiece}
use Rattle.dae_program.specs.declared.statements.FormatPiece.TheVariants as piece
use Rattle.dae_lower.specs.Lowering.{Made, ◌≫◌, nothing, emit, one, nowhere, or, assigned_all, test_of, Links, ways, operands, leave_unless, leave_unless_some, effect_of_some, loop, unread, preheader, headed_loop, text_loop, prints, turn_bytes, zeros_at, zeros, settings, arms_continue, search_labels, search, switch, statements, arms_from, parameters_stored}
use Rattle.dae_lower_bounds.specs.Constants.{IsConstant, AreConstant, InitialisesConstants, ArmsInitialiseConstants}
use Rattle.dae_lower_bounds.specs.Voids.{is_void_test, void_in_all, void_in_some, void_test, void_some, count_labels, void_statements, void_arms}
use Rattle.dae_lower_bounds.proofs.Marked.{AnyTest, loads_into, loads_then, tests_within, tests_then, each_then, joined, agrees_first, agrees_second, Leads, Any, OwnFits, Marked, chain, more, plain_code, one_new, nothing_marked, branches_marked}
use Rattle.dae_lower_bounds.proofs.MarkedExpressions.{WaysDo, AllLead, either_bit, tests_of, counts_operand, counts_test, decided, expression_does}

next_isnt : (n : ℕ) → nat_eq (n + 1) n ≡ false
next_isnt n = grind (arith, nat_tests)

bit_most : (a : Bool) → bit a ≤ 1
bit_most true = omega arith
bit_most false = omega arith

no_bit : (a c : Bool) → a ≡ false → bit (a && c) ≡ 0
no_bit true c h = cc
no_bit false c h = omega arith

-- an argument that leads to an address
argument_leads : (flags : ℕ → Bool) (s : VariableSet) (xs : List Operand) (k j : ℕ) → AllLead flags k s xs → flags (k + j) ≡ true → has s (argument (Number 0) xs j) ≡ true
argument_leads flags s [] k j h g = refl
argument_leads flags s (x ∷ xs) k zero h g = h.0 (subst (λ (i : ℕ). flags i ≡ true) (let e : k + 0 ≡ k = omega arith in e) g)
argument_leads flags s (x ∷ xs) k (suc j) h g = argument_leads flags s xs (suc k) j h.1 (subst (λ (i : ℕ). flags i ≡ true) (let e : k + suc j ≡ suc k + j = omega arith in e) g)

-- ---- code that leads to nothing

-- zeros from the address in a variable on
zeros_each : (all : ℕ → VariableSet) (s : VariableSet) (p : Place) (v count : ℕ) → s v ≡ true → Each (AddressesKept all s) AnyTest (zeros_at p v count)
zeros_each all s p v zero h = tt
zeros_each all s p v (suc count) h = (h, ((λ t. and_from (s v) true h refl), zeros_each all s p v count h))

zeros_loads : (s : VariableSet) (p : Place) (v count : ℕ) → loads_into s (zeros_at p v count) ≡ 0
zeros_loads s p v zero = omega arith
zeros_loads s p v (suc count) = let h = zeros_loads s p v count in omega (arith, h)

zeros_tests : (s : VariableSet) (p : Place) (v count : ℕ) → tests_within s (zeros_at p v count) ≡ 0
zeros_tests s p v zero = omega arith
zeros_tests s p v (suc count) = let h = zeros_tests s p v count in omega (arith, h)

labels_each : (all : ℕ → VariableSet) (s : VariableSet) (p : Place) (x : Operand) (v k : ℕ) (labels : List (Option ℕ)) (rest : Form) → Each (AddressesKept all s) AnyTest rest → Each (AddressesKept all s) AnyTest (search_labels p x v k labels rest)
labels_each all s p x v k [] rest h = h
labels_each all s p x v k (None ∷ labels) rest h = labels_each all s p x v k labels rest h
labels_each all s p x v k (Some label ∷ labels) rest h = (tt, ((λ t. refl), (tt, tt)), tt, labels_each all s p x v k labels rest h)

search_each : (all : ℕ → VariableSet) (s : VariableSet) (p : Place) (x : Operand) (v k : ℕ) (arms : Arms) → Each (AddressesKept all s) AnyTest (search p x v k arms)
search_each all s p x v k tree.no_arms = (tt, tt)
search_each all s p x v k (tree.arm_then labels t rest) = labels_each all s p x v k labels (search p x v (suc k) rest) (search_each all s p x v (suc k) rest)

labels_loads : (s : VariableSet) (p : Place) (x : Operand) (v k : ℕ) (labels : List (Option ℕ)) (rest : Form) → loads_into s (search_labels p x v k labels rest) ≡ loads_into s rest
labels_loads s p x v k [] rest = refl
labels_loads s p x v k (None ∷ labels) rest = labels_loads s p x v k labels rest
labels_loads s p x v k (Some label ∷ labels) rest = let h = labels_loads s p x v k labels rest in omega (arith, h)

search_loads : (s : VariableSet) (p : Place) (x : Operand) (v k : ℕ) (arms : Arms) → loads_into s (search p x v k arms) ≡ 0
search_loads s p x v k tree.no_arms = omega arith
search_loads s p x v k (tree.arm_then labels t rest) = labels_loads s p x v k labels (search p x v (suc k) rest) ∙ search_loads s p x v (suc k) rest

switch_each : (all : ℕ → VariableSet) (s : VariableSet) (goes_on : Bool) (p : Place) (x : Operand) (n other : ℕ) (searching : Form) (arms : Made (Unit {0})) → Each (AddressesKept all s) AnyTest searching → Each (AddressesKept all s) AnyTest arms.code → Each (AddressesKept all s) AnyTest (switch p x n other searching goes_on arms).code
switch_each all s true p x n other searching arms h g =
    ((λ t. refl), (h, tt, ((λ t. refl), (each_then (AddressesKept all s) arms.code (one p Break) g (tt, tt), ((λ t. refl), (tt, tt)), (tt, (tt, tt), tt, tt)))))
switch_each all s false p x n other searching arms h g =
    ((λ t. refl), (h, tt, (each_then (AddressesKept all s) arms.code (one p Break) g (tt, tt), tt, tt)))

switch_loads : (s : VariableSet) (goes_on : Bool) (p : Place) (x : Operand) (n other : ℕ) (searching : Form) (arms : Made (Unit {0})) → loads_into s (switch p x n other searching goes_on arms).code ≡ loads_into s searching + loads_into s arms.code
switch_loads s true p x n other searching arms = let h = loads_then s arms.code (one p Break) in omega (arith, h)
switch_loads s false p x n other searching arms = let h = loads_then s arms.code (one p Break) in omega (arith, h)

-- ---- tests of labels

-- the labels of arms, where the flags say that they count
abbrev label_tests : (ℕ → Bool) → Bool → Bool → Arms → ℕ
label_tests wanted c d tree.no_arms = 0
label_tests wanted c d (tree.arm_then labels t rest) = ((if c then count_tests wanted labels else 0) + (if d then count_labels labels else 0)) + label_tests wanted c d rest

-- the tests in the statements of arms
abbrev body_tests : (ℕ → Bool) → Arms → ℕ
body_tests wanted tree.no_arms = 0
body_tests wanted (tree.arm_then labels t rest) = (open_statements wanted t + void_statements t) + body_tests wanted rest

arms_tests : (wanted : ℕ → Bool) (c d : Bool) (arms : Arms) → label_tests wanted c d arms + body_tests wanted arms ≤ open_arms wanted c arms + void_arms d arms
arms_tests wanted c d tree.no_arms = omega arith
arms_tests wanted c d (tree.arm_then labels t rest) = let h = arms_tests wanted c d rest in omega (arith, h)

one_label : (a c d : Bool) (m k : ℕ) → (a ≡ true → (c || d) ≡ true) → bit (a && true) + ((if c then m else 0) + (if d then k else 0)) ≤ (if c then suc m else 0) + (if d then suc k else 0)
one_label true true true m k h = omega arith
one_label true true false m k h = omega arith
one_label true false true m k h = omega arith
one_label true false false m k h = absurd (let e : false ≡ true = h refl in cc)
one_label false true true m k h = omega arith
one_label false true false m k h = omega arith
one_label false false true m k h = omega arith
one_label false false false m k h = omega arith

labels_tests : (wanted : ℕ → Bool) (c d : Bool) (s : VariableSet) (p : Place) (x : Operand) (v k : ℕ) (labels : List (Option ℕ)) (rest : Form) → (has s x ≡ true → (c || d) ≡ true) →
    tests_within s (search_labels p x v k labels rest) ≤ ((if c then count_tests wanted labels else 0) + (if d then count_labels labels else 0)) + tests_within s rest
labels_tests wanted c d s p x v k [] rest h = omega arith
labels_tests wanted c d s p x v k (None ∷ labels) rest h = labels_tests wanted c d s p x v k labels rest h
labels_tests wanted c d s p x v k (Some label ∷ labels) rest h =
    let g = labels_tests wanted c d s p x v k labels rest h in
    let one = one_label (has s x) c d (count_tests wanted labels) (count_labels labels) h in
    omega (arith, g, one)

search_tests : (wanted : ℕ → Bool) (c d : Bool) (s : VariableSet) (p : Place) (x : Operand) (v k : ℕ) (arms : Arms) → (has s x ≡ true → (c || d) ≡ true) → tests_within s (search p x v k arms) ≤ label_tests wanted c d arms
search_tests wanted c d s p x v k tree.no_arms h = omega arith
search_tests wanted c d s p x v k (tree.arm_then labels t rest) h =
    let a = labels_tests wanted c d s p x v k labels (search p x v (suc k) rest) h in
    let g = search_tests wanted c d s p x v (suc k) rest h in
    omega (arith, a, g)

switch_tests : (s : VariableSet) (goes_on : Bool) (p : Place) (x : Operand) (n other : ℕ) (searching : Form) (arms : Made (Unit {0})) → s (n + 1) ≡ false → tests_within s (switch p x n other searching goes_on arms).code ≡ tests_within s searching + tests_within s arms.code
switch_tests s true p x n other searching arms unset = let h = tests_then s arms.code (one p Break) in let z = no_bit (s (n + 1)) true unset in omega (arith, h, z)
switch_tests s false p x n other searching arms unset = let h = tests_then s arms.code (one p Break) in omega (arith, h)

module _ (wants : Wants) (own : ℕ → ℕ) (f : ℕ) (b : FunctionBounds) (some : 0 < b.variables) (l : Links) (enough : (g k : ℕ) → takes (b.parameters g) k ≡ true → k < own (l.callee g)) where
  abbrev Does : {Y : Type 0} (G : VariableSet → Type 0) (Is : VariableSet → Y → Type 0) (n loads tests : ℕ) (made : Made Y) → Type 0
  Does G Is n loads tests made = Marked wants own f b.variables G Is n loads tests made

  -- the tests that count
  abbrev tests_test : Expression → ℕ
  tests_test e = open_test (wants f) e + void_test e

  abbrev tests_some : Option Expression → ℕ
  tests_some e = open_some (wants f) e + void_some e

  abbrev tests_in_some : Option Expression → ℕ
  tests_in_some e = open_in_some (wants f) e + void_in_some e

  abbrev tests_statements : Statements → ℕ
  tests_statements t = open_statements (wants f) t + void_statements t

  abbrev ExpressionDoes : Bool → Expression → Type 1
  ExpressionDoes flag e = WaysDo wants own f b l enough flag (counts_operand wants own f b l enough e) (counts_test wants own f b l enough e) (wanted wants l.callee f flag e) (tests_of wants own f b l enough e) (ways l e)

  loop_does : {G : VariableSet → Type 0} {body : Made (Unit {0})} {n k j t u : ℕ} (p : Place) (step : ℕ → Made (Unit {0})) → Does G Any n k t body → ((q : ℕ) → n ≤ q → Does G Any q j u (step q)) → Does G Any n (k + j) (t + u) (loop p body step)
  loop_does {G} {body} {n} {k} {j} {t} {u} p step h next = record {
    grows = omega (arith, h.grows, second.grows);
    marks = joined body.next h.marks second.marks;
    holds = λ all fits s w g agree.
        let a = h.holds all fits s w g (agrees_first n body.next (step body.next).next h.marks second.marks s second.grows agree) in
        let c = second.holds all fits s w g (agrees_second n body.next (step body.next).next h.marks second.marks s h.grows agree) in
        ((a.0, c.0, tt), omega (arith, a.1, c.1), omega (arith, a.2, c.2), tt);
  } where
    second : Does G Any body.next j u (step body.next)
    second = next body.next h.grows

  unread_does : {G : VariableSet → Type 0} {n : ℕ} (p : Place) → Does G Any n 0 0 (unread p n)
  unread_does p = record {
    grows = omega arith;
    marks = λ v. false;
    holds = λ all fits s w g agree. (((λ t. refl), tt), omega arith, omega arith, tt);
  }

  preheader_does : {G : VariableSet → Type 0} {n : ℕ} (p : Place) → Does G Any n 0 0 (preheader p n)
  preheader_does p =
      more wants own f b.variables (omega arith) (omega arith) (chain wants own f b.variables (λ x n. unread p n ≫ λ x. unread p) (unread_does p)
      (λ q y o. chain wants own f b.variables (λ x. unread p) (unread_does p) (λ q y o. unread_does p)))

  -- a loop behind its preheader
  headed_does : {G : VariableSet → Type 0} {n k j t u : ℕ} (p : Place) (body step : ℕ → Made (Unit {0})) → ((H : VariableSet → Type 0) (q : ℕ) → Does H Any q k t (body q)) → ((H : VariableSet → Type 0) (q : ℕ) → Does H Any q j u (step q)) →
      Does G Any n (k + j) (t + u) (headed_loop p body step n)
  headed_does p body step turn behind =
      more wants own f b.variables (omega arith) (omega arith) (chain wants own f b.variables (λ x n. loop p (body n) step) (preheader_does p) (λ q y o. loop_does p step (turn _ q) (λ v r. behind _ v)))

  break_does : {G : VariableSet → Type 0} {n : ℕ} (p : Place) → Does G Any n 0 0 (emit (one p Break) n)
  break_does p = plain_code wants own f b.variables (one p Break) tt (λ all fits s w g. ((tt, tt), omega arith, omega arith, tt))

  continue_does : {G : VariableSet → Type 0} {n : ℕ} (p : Place) → Does G Any n 0 0 (emit (one p Continue) n)
  continue_does p = plain_code wants own f b.variables (one p Continue) tt (λ all fits s w g. ((tt, tt), omega arith, omega arith, tt))

  return_does : {G : VariableSet → Type 0} {n : ℕ} (p : Place) (x : Operand) → ((s : VariableSet) → OwnFits wants own f b.variables s → G s → Leads (wants f 0) s x) → Does G Any n 0 0 (emit (one p (Return x)) n)
  return_does p x h = plain_code wants own f b.variables (one p (Return x)) tt (λ all fits s w g. (((λ t. h s w g (sym (w 0 some) ∙ t)), tt), omega arith, omega arith, tt))

  leave_does : (p : Place) (e : Expression) → ExpressionDoes false e → (G : VariableSet → Type 0) (n : ℕ) → Does G Any n (wanted wants l.callee f false e) (tests_test e) (leave_unless l p e n)
  leave_does p e h G n =
      let one = either_bit (is_open (wants f) e) (is_void_test e) in
      more wants own f b.variables (omega arith) (omega (arith, one)) (branches_marked wants own f b.variables (counts_test wants own f b l enough e) p _ _ (decided wants own f b l enough nowhere h) (λ q o. nothing_marked wants own f b.variables tt (λ s w g. tt)) (λ q o. break_does p))

  leave_some_does : (p : Place) (e : Option Expression) → is_sound_some b e ≡ true → KeepSome wants l.callee f false e → (G : VariableSet → Type 0) (n : ℕ) → Does G Any n (wanted_some wants l.callee f false e) (tests_some e) (leave_unless_some l p e n)
  leave_some_does p None h w G n = more wants own f b.variables (omega arith) (omega arith) (nothing_marked wants own f b.variables tt (λ s w g. tt))
  leave_some_does p (Some e) h w G n = leave_does p e (expression_does wants own f b l enough false e h w) G n

  effect_some_does : (e : Option Expression) → is_sound_some b e ≡ true → KeepSome wants l.callee f false e → (G : VariableSet → Type 0) (n : ℕ) → Does G Any n (wanted_some wants l.callee f false e) (tests_in_some e) (effect_of_some l e n)
  effect_some_does None h w G n = more wants own f b.variables (omega arith) (omega arith) (nothing_marked wants own f b.variables tt (λ s w g. tt))
  effect_some_does (Some e) h w G n = (expression_does wants own f b l enough false e h w).effect G nowhere n

  printed_item : {G : VariableSet → Type 0} (n : ℕ) (p : Place) (item : Item) → ((all : ℕ → VariableSet) (s : VariableSet) → AddressesKept all s item) → ((s : VariableSet) → loads_into s (one p item) ≤ 0) → Does G Any n 0 0 (emit (one p item) n)
  printed_item n p item h g = plain_code wants own f b.variables (one p item) tt (λ all fits s w c. ((h all s, tt), g s, omega arith, tt))

  -- ---- printing

  printed_do : (pieces : List FormatPiece) (k : ℕ) (xs : Expressions) → are_sound b xs ≡ true → KeepPrinted wants l.callee f pieces k xs → (G : VariableSet → Type 0) (later : VariableSet) (n : ℕ) → Does G (AllLead (λ j. is_text j pieces) k) n (wanted_printed wants l.callee f pieces k xs) (open_in_all (wants f) xs + void_in_all xs) (operands l xs later n)
  printed_do pieces k tree.no_expressions h w G later n = more wants own f b.variables (omega arith) (omega arith) (nothing_marked wants own f b.variables [] (λ s c g. tt))
  printed_do pieces k (tree.expression_then x xs) h w G later n =
      more wants own f b.variables (omega arith) (omega arith) (chain wants own f b.variables (λ x n. operands l xs later n ≫ λ xs. nothing (x ∷ xs)) ((expression_does wants own f b l enough (is_text k pieces) x (and_first _ _ h) w.0).value G (or later (assigned_all xs)) n)
      (λ q y o. chain wants own f b.variables (λ ys. nothing (y ∷ ys)) (printed_do pieces (suc k) xs (and_second _ _ h) w.1 _ later q) (λ q ys o. nothing_marked wants own f b.variables (y ∷ ys) (λ s c i. (i.0.1.0, i.1)))))

  text_does : {G : VariableSet → Type 0} (n : ℕ) (p : Place) (x : Operand) → ((s : VariableSet) → OwnFits wants own f b.variables s → G s → has s x ≡ true) → Does G Any n 0 0 (text_loop p x n)
  text_does n p x h = record {
    grows = omega arith;
    marks = λ v. nat_eq v n;
    holds = λ all fits s w g agree.
        let at : s n ≡ true = agree n (omega arith) (omega arith) ∙ same_number n in
        let byte : s (n + 1) ≡ false = agree (n + 1) (omega arith) (omega arith) ∙ next_isnt n in
        let none : bit (s (n + 1)) ≡ 0 = ap bit byte in
        let no_test = no_bit (s (n + 1)) true byte in
        (((λ t. h s w g), (((at, (at, (tt, tt, (tt, tt), (tt, tt)))), ((λ t. and_from (s n) true at refl), tt), tt))), omega (arith, none), omega (arith, no_test), tt);
  }

  prints_do : {G : VariableSet → Type 0} (p : Place) (ps : List FormatPiece) (xs : List Operand) → ((s : VariableSet) → OwnFits wants own f b.variables s → G s → (j : ℕ) → is_text j ps ≡ true → has s (argument (Number 0) xs j) ≡ true) → (n : ℕ) → Does G Any n 0 0 (prints p ps xs n)
  prints_do p [] xs h n = nothing_marked wants own f b.variables tt (λ s w g. tt)
  prints_do p (piece.Byte c ∷ ps) xs h n = more wants own f b.variables (omega arith) (omega arith) (chain wants own f b.variables (λ x. prints p ps xs) (printed_item n p (Print Byte (Number c)) (λ all s. tt) (λ s. omega arith)) (λ q y o. prints_do p ps xs (λ s w g. h s w g.0) q))
  prints_do p (piece.Word spelling k ∷ ps) xs h n = more wants own f b.variables (omega arith) (omega arith) (chain wants own f b.variables (λ x. prints p ps xs) (printed_item n p (Print spelling (argument (Number 0) xs k)) (λ all s. tt) (λ s. omega arith)) (λ q y o. prints_do p ps xs (λ s w g. h s w g.0) q))
  prints_do p (piece.String k ∷ ps) xs h n =
      more wants own f b.variables (omega arith) (omega arith) (chain wants own f b.variables (λ x. prints p ps xs) (text_does n p (argument (Number 0) xs k) (λ s w g. h s w g k (or_left (nat_eq k k) (is_text k ps) (same_number k))))
      (λ q y o. prints_do p ps xs (λ s w g j t. h s w g.0 j (or_right (nat_eq j k) (is_text j ps) t)) q))

  -- ---- aggregates

  zeros_do : {G : VariableSet → Type 0} (n : ℕ) (p : Place) (offset size : ℕ) → Does G (λ s (y : Unit {0}). s n ≡ true) n 0 1 (emit (zeros p offset size n) (n + 2))
  zeros_do n p offset size = record {
    grows = omega arith;
    marks = λ v. true;
    holds = λ all fits s w g agree.
        let address : s n ≡ true = agree n (omega arith) (omega arith) in
        let end : s (n + 1) ≡ true = agree (n + 1) (omega arith) (omega arith) in
        let one_test = bit_most (s n && s (n + 1)) in
        let loads = zeros_loads s p n (turn_bytes size) in
        let tests = zeros_tests s p n (turn_bytes size) in
        (((λ t. refl), ((λ t. and_from (s (n + 1)) true end refl), ((tt, tt, (tt, tt), zeros_each all s p n (turn_bytes size) address), tt, tt))), omega (arith, loads), omega (arith, one_test, tests), address);
  }

  placed_does : {G : VariableSet → Type 0} (n : ℕ) (p : Place) (v : ℕ) (item : Setting) (y : Operand) → ((s : VariableSet) → OwnFits wants own f b.variables s → G s → s v ≡ true) → Does G Any n 0 0 (emit (Do p (Assign v (FrameAddress item.offset)) (one p (Store item.width (Variable v) y))) n)
  placed_does n p v item y h = plain_code wants own f b.variables (Do p (Assign v (FrameAddress item.offset)) (one p (Store item.width (Variable v) y))) tt (λ all fits s w g. (((λ t. refl), (h s w g, tt)), omega arith, omega arith, tt))

  constant_loads : (e : Expression) → IsConstant e → wanted wants l.callee f false e ≡ 0
  constant_loads e (inl h) = ap (λ x. wanted wants l.callee f false x) h.1
  constant_loads e (inr h) = ap (λ x. wanted wants l.callee f false x) h.2

  constant_tests : (e : Expression) → IsConstant e → tests_of wants own f b l enough e ≡ 0
  constant_tests e (inl h) = ap (λ x. tests_of wants own f b l enough x) h.1
  constant_tests e (inr h) = ap (λ x. tests_of wants own f b l enough x) h.2

  items_do : (p : Place) (v : ℕ) (items : List Setting) {G : VariableSet → Type 0} → are_sound_items b items ≡ true → KeepItems wants l.callee f items → AreConstant items → ((s : VariableSet) → OwnFits wants own f b.variables s → G s → s v ≡ true) → (n : ℕ) → Does G Any n 0 0 (settings l p v items n)
  items_do p v [] h w c g n = nothing_marked wants own f b.variables tt (λ s w g. tt)
  items_do p v (item ∷ items) {G} h w c g n =
      more wants own f b.variables (let e = constant_loads item.value c.0 in omega (arith, e)) (let e = constant_tests item.value c.0 in omega (arith, e)) (chain wants own f b.variables (λ y n. emit (Do p (Assign v (FrameAddress item.offset)) (one p (Store item.width (Variable v) y))) n ≫ λ x. settings l p v items) ((expression_does wants own f b l enough false item.value (and_first _ _ (and_second _ _ h)) w.0).value G nowhere n)
      (λ q y o. chain wants own f b.variables (λ x. settings l p v items) (placed_does q p v item y (λ s i j. g s i j.0)) (λ q y o. items_do p v items (and_second _ _ (and_second _ _ h)) w.1 c.1 (λ s i j. g s i j.0.0) q)))

  -- ---- switches

  switch_does : {G : VariableSet → Type 0} {n k t u : ℕ} (goes_on : Bool) (p : Place) (x : Operand) (other : ℕ) (arms : Arms) (made : Made (Unit {0})) → ((s : VariableSet) → G s → tests_within s (search p x n 0 arms) ≤ u) → Does (λ s. G s × (s n ≡ false)) Any (n + 2) k t made →
      Does G Any n k (u + t) (switch p x n other (search p x n 0 arms) goes_on made)
  switch_does {G} {n} {k} {t} {u} goes_on p x other arms made few h = record {
    grows = omega (arith, h.grows);
    marks = joined (n + 2) (λ v. false) h.marks;
    holds = λ all fits s w g agree.
        let none = agrees_first n (n + 2) made.next (λ v. false) h.marks s h.grows agree in
        let a = h.holds all fits s w (g, none n (omega arith) (omega arith)) (agrees_second n (n + 2) made.next (λ v. false) h.marks s (omega arith) agree) in
        let c = switch_loads s goes_on p x n other (search p x n 0 arms) made in
        let d = search_loads s p x n 0 arms in
        let e = switch_tests s goes_on p x n other (search p x n 0 arms) made (none (n + 1) (omega arith) (omega arith)) in
        let r = few s g in
        (switch_each all s goes_on p x n other (search p x n 0 arms) made (search_each all s p x n 0 arms) a.0, omega (arith, a.1, c, d), omega (arith, a.2, e, r), tt);
  }

  guarded_does : {G : VariableSet → Type 0} {n k t : ℕ} (p : Place) (j v : ℕ) (made : Made (Unit {0})) → ((s : VariableSet) → G s → s v ≡ false) → Does G Any n k t made → Does G Any n k t (emit (If p (test_of AtLeastUnsigned (Number j) (Variable v)) made.code Done Done) made.next)
  guarded_does p j v made unset h = record {
    grows = h.grows;
    marks = h.marks;
    holds = λ all fits s w g agree.
        let a = h.holds all fits s w g agree in
        let z : bit (s v) ≡ 0 = ap bit (unset s g) in
        ((tt, a.0, tt, tt), omega (arith, a.1), omega (arith, a.2, z), tt);
  }

  -- ---- statements

  mutual
    pub statements_do : (t : Statements) → are_sound_statements b t ≡ true → KeepStatements wants l.callee f t → InitialisesConstants t → (G : VariableSet → Type 0) (n : ℕ) → Does G Any n (wanted_in wants l.callee f t) (tests_statements t) (statements l t n)
    statements_do tree.Done h w c G n = more wants own f b.variables (omega arith) (omega arith) (nothing_marked wants own f b.variables tt (λ s w g. tt))
    statements_do (tree.Evaluate p e k) h w c G n =
        more wants own f b.variables (omega arith) (omega arith) (chain wants own f b.variables (λ x. statements l k) ((expression_does wants own f b l enough false e (and_first _ _ h) w.0).effect G nowhere n) (λ q y o. statements_do k (and_second _ _ h) w.1 c _ q))
    statements_do (tree.Initialise p offset size items k) h w c G n =
        more wants own f b.variables (omega arith) (omega arith) (chain wants own f b.variables (λ x. statements l k) (chain wants own f b.variables (λ x. settings l p n items) (zeros_do n p offset size) (λ q y o. items_do p n items (and_first _ _ (and_second _ _ h)) w.0 c.0 (λ s i j. j.1) q)) (λ q y o. statements_do k (and_second _ _ (and_second _ _ h)) w.1 c.1 _ q))
    statements_do (tree.Print p xs pieces k) h w c G n =
        more wants own f b.variables (omega arith) (omega arith) (chain wants own f b.variables (λ x. statements l k) (chain wants own f b.variables (prints p pieces) (printed_do pieces 0 xs (and_first _ _ h) w.0 G nowhere n)
        (λ q ys o. prints_do p pieces ys (λ s i g j t. argument_leads (λ j. is_text j pieces) s ys 0 j g.1 (subst (λ (r : ℕ). is_text r pieces ≡ true) (let e : j ≡ 0 + j = omega arith in e) t)) q))
        (λ q y o. statements_do k (and_second _ _ h) w.1 c _ q))
    statements_do (tree.If p e t u k) h w c G n =
        let step = and_second (is_sound b e) (are_sound_statements b t && (are_sound_statements b u && are_sound_statements b k)) h in
        let last = and_second (are_sound_statements b t) (are_sound_statements b u && are_sound_statements b k) step in
        let one = either_bit (is_open (wants f) e) (is_void_test e) in
        more wants own f b.variables (omega arith) (omega (arith, one)) (chain wants own f b.variables (λ x. statements l k) (branches_marked wants own f b.variables (counts_test wants own f b l enough e) p _ _ (decided wants own f b l enough nowhere (expression_does wants own f b l enough false e (and_first _ _ h) w.0)) (λ q o. statements_do t (and_first _ _ step) w.1 c.0 _ q) (λ q o. statements_do u (and_first _ _ last) w.2 c.1 _ q))
        (λ q y o. statements_do k (and_second _ _ last) w.3 c.2 _ q))
    statements_do (tree.Loop p test body step k) h w c G n =
        let rest = and_second (is_sound_some b test) (are_sound_statements b body && (is_sound_some b step && are_sound_statements b k)) h in
        let last = and_second (are_sound_statements b body) (is_sound_some b step && are_sound_statements b k) rest in
        more wants own f b.variables (omega arith) (omega arith) (chain wants own f b.variables (λ x. statements l k) (headed_does p (λ o. leave_unless_some l p test o ≫ λ x. statements l body) (effect_of_some l step) (λ H o. chain wants own f b.variables (λ x. statements l body) (leave_some_does p test (and_first _ _ h) w.0 H o) (λ q y r. statements_do body (and_first _ _ rest) w.1 c.0 _ q)) (λ H o. effect_some_does step (and_first _ _ last) w.2 H o))
        (λ q y o. statements_do k (and_second _ _ last) w.3 c.1 _ q))
    statements_do (tree.Do p body test k) h w c G n =
        more wants own f b.variables (omega arith) (omega arith) (chain wants own f b.variables (λ x. statements l k) (headed_does p (statements l body) (leave_unless l p test) (λ H o. statements_do body (and_first _ _ h) w.0 c.0 H o) (λ H o. leave_does p test (expression_does wants own f b l enough false test (and_first _ _ (and_second _ _ h)) w.1) H o))
        (λ q y o. statements_do k (and_second _ _ (and_second _ _ h)) w.2 c.1 _ q))
    statements_do (tree.Switch p e arms k) h w c G n =
        let few = arms_tests (wants f) (is_open (wants f) e) (is_void_test e) arms in
        more wants own f b.variables (omega arith) (omega (arith, few)) (chain wants own f b.variables (λ x. statements l k)
        (chain wants own f b.variables (λ x n. switch p x n (arm_with None 0 arms (count_arms arms)) (search p x n 0 arms) (arms_continue arms) (arms_from l p n 0 arms (n + 2))) ((expression_does wants own f b l enough false e (and_first _ _ (and_first _ _ h)) w.0).value G nowhere n)
        (λ q y o. switch_does (arms_continue arms) p y (arm_with None 0 arms (count_arms arms)) arms (arms_from l p q 0 arms (q + 2)) (λ s g. search_tests (wants f) (is_open (wants f) e) (is_void_test e) s p y q 0 arms (λ i. (g.1.1 refl i).1))
        (arms_do arms (and_first _ _ (and_second _ _ h)) w.1 c.0 p q 0 _ (λ s g. g.1) (q + 2))))
        (λ q y o. statements_do k (and_second _ _ (and_second _ _ h)) w.2 c.1 _ q))
    statements_do (tree.Break p k) h w c G n = more wants own f b.variables (omega arith) (omega arith) (chain wants own f b.variables (λ x. statements l k) (break_does p) (λ q y o. statements_do k h w c _ q))
    statements_do (tree.Continue p k) h w c G n = more wants own f b.variables (omega arith) (omega arith) (chain wants own f b.variables (λ x. statements l k) (continue_does p) (λ q y o. statements_do k h w c _ q))
    statements_do (tree.Return p None k) h w c G n = more wants own f b.variables (omega arith) (omega arith) (chain wants own f b.variables (λ x. statements l k) (return_does p (Number 0) (λ s i g t. refl)) (λ q y o. statements_do k h w.1 c _ q))
    statements_do (tree.Return p (Some e) k) h w c G n =
        more wants own f b.variables (omega arith) (omega arith) (chain wants own f b.variables (λ x n. emit (one p (Return x)) n ≫ λ x. statements l k) ((expression_does wants own f b l enough (wants f 0) e (and_first _ _ h) w.0).value G nowhere n)
        (λ q y o. chain wants own f b.variables (λ x. statements l k) (return_does p y (λ s i g. g.1.0)) (λ q y o. statements_do k (and_second _ _ h) w.1 c _ q)))

    arms_do : (arms : Arms) → are_sound_arms b arms ≡ true → KeepArms wants l.callee f arms → ArmsInitialiseConstants arms → (p : Place) (v k : ℕ) (G : VariableSet → Type 0) → ((s : VariableSet) → G s → s v ≡ false) → (n : ℕ) → Does G Any n (wanted_in_arms wants l.callee f arms) (body_tests (wants f) arms) (arms_from l p v k arms n)
    arms_do tree.no_arms h w c p v k G unset n = nothing_marked wants own f b.variables tt (λ s w g. tt)
    arms_do (tree.arm_then labels t rest) h w c p v k G unset n =
        chain wants own f b.variables (λ x. arms_from l p v (suc k) rest) (guarded_does p k v (statements l t n) unset (statements_do t (and_first _ _ (and_second _ _ h)) w.0 c.0 G n)) (λ q y o. arms_do rest (and_second _ _ (and_second _ _ h)) w.1 c.1 p v (suc k) _ (λ s g. unset s g.0) q)

  -- ---- functions

  parameters_do : {G : VariableSet → Type 0} (p : Place) (slots : List (Option FrameSlot)) (k n : ℕ) → Does G Any n 0 0 (parameters_stored p slots k n)
  parameters_do p [] k n = nothing_marked wants own f b.variables tt (λ s w g. tt)
  parameters_do p (None ∷ slots) k n = parameters_do p slots (k + 1) n
  parameters_do {G} p (Some slot ∷ slots) k n = more wants own f b.variables (omega arith) (omega arith) (chain wants own f b.variables (λ x. parameters_stored p slots (k + 1)) stored (λ q y o. parameters_do p slots (k + 1) q)) where
    stored : Does G Any n 0 0 (emit (Do p (Assign n (FrameAddress slot.offset)) (one p (Store slot.width (Variable n) (Variable k)))) (n + 1))
    stored = one_new wants own f b.variables true (Do p (Assign n (FrameAddress slot.offset)) (one p (Store slot.width (Variable n) (Variable k)))) tt (λ all fits s w g is. (((λ t. refl), (is, tt)), omega arith, omega arith, tt))

  pub function_does : (p : Place) (slots : List (Option FrameSlot)) (body : Statements) → are_sound_statements b body ≡ true → KeepStatements wants l.callee f body → InitialisesConstants body →
      Does (λ s. Unit {0}) Any b.variables (wanted_in wants l.callee f body) (open_statements (wants f) body + void_statements body) (parameters_stored p slots 1 b.variables ≫ λ x. statements l body)
  function_does p slots body h w c = more wants own f b.variables (omega arith) (omega arith) (chain wants own f b.variables (λ x. statements l body) (parameters_do p slots 1 b.variables) (λ q y o. statements_do body h w c _ q))
