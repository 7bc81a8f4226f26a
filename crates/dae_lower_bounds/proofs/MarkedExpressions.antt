-- The code of each expression is marked as what is wanted of it says, and has the tests that are counted in it.
use Rattle.std.proofs.Common.{◌≡◌, ℕ, suc, ◌+◌, ◌<◌, ◌≤◌, Bool, true, false, ◌&&◌, ◌||◌, if◌then◌else◌, List, [], ◌∷◌, length, refl, ap, sym, ◌∙◌, subst, arith}
use Rattle.std.proofs.lemmas.Bool.{or_left, or_right, and_from, ltb-true}
use Rattle.dae_base.specs.declared.Place.{Place}
use Rattle.dae_base.specs.declared.LoadKind.{LoadKind}
use Rattle.dae_base.specs.declared.LoadKind.TheVariants.{U8}
use Rattle.dae_base.specs.Words.{plus}
use Rattle.dae_base.proofs.Laws.{or_true, and_first, and_second}
use Rattle.dae_ir.specs.Code.{Do}
use Rattle.dae_ir.specs.Classes.{VariableSet, has, has_test, ArgumentsKept}
use Rattle.dae_ir.specs.Sizes.{bit}
use Rattle.dae_ir.specs.declared.form.Item.TheVariants.{Print, Expect, Call, Halt}
use Rattle.dae_ir.specs.declared.form.Check.TheVariants.{Room, Abort}
use Rattle.dae_ir.specs.declared.form.Operand.{Operand}
use Rattle.dae_ir.specs.declared.form.Operand.TheVariants.{Variable, Number}
use Rattle.dae_ir.specs.declared.form.Value.TheVariants.{Extended, Binary, Holds, FrameAddress}
use Rattle.dae_meaning.specs.declared.Spelling.TheVariants.{Byte}
use Rattle.dae_meaning.specs.declared.Operator.TheVariants.{Add}
use Rattle.dae_meaning.specs.declared.Comparison.{Comparison}
use Rattle.dae_meaning.specs.declared.Comparison.TheVariants.{Equal}
use Rattle.dae_program.specs.Lawful.{FunctionBounds, is_sound, are_sound, takes, count}
use Rattle.dae_program.specs.Wanted.{Wants, IfSo, KeepsWants, KeepArguments, wanted, wanted_arguments, is_open, is_open_operand, open_in, open_in_all}
use Rattle.dae_program.specs.Trees as tree
use Rattle.dae_program.specs.Trees.{Expression, Target, Expressions}
use Rattle.dae_lower.specs.Lowering.{Made, ◌≫◌, nothing, only, emit, skip, one, set, or, assigned, assigned_all, fetched, held, put_in, operated, narrowed, Assignee, Local, Placed, test_of, related, isnt_zero, turn, gives, Ways, by_value, chosen, variable, advanced, stepped, assigned_target, Links, ways, spot, operands}
use Rattle.dae_lower_bounds.specs.Voids.{is_void, is_void_test, void_in, void_in_all}
use Rattle.dae_lower_bounds.proofs.Marked.{Leads, Led, Decides, fresh_led, Any, OwnFits, Marked, chain, more, told, with_new, plain_code, one_new, nothing_marked, set_marked, variable_marked, fetched_marked, HeldLeads, held_marked, PutLeads, put_marked, operated_marked, narrowed_marked, gives_marked, branches_marked}

pub either_bit : (a b : Bool) → bit (a || b) ≤ bit a + bit b
either_bit true b = omega arith
either_bit false b = omega arith

-- a comparison is counted where both its operands are
compared_counts : (x u y v : Bool) → (x || u) ≡ true → (y || v) ≡ true → ((x && y) || (u || v)) ≡ true
compared_counts true u true v h g = refl
compared_counts true u false v h g = or_right u v g
compared_counts false u y v h g = or_left u v h

if_so : (X : Type 0) (b : Bool) → IfSo b X → b ≡ true → X
if_so X true h e = h
if_so X false h e = absurd (let c : false ≡ true = e in cc)

-- wanted, if it is so by the flag or already
wanted_now : (flag w : Bool) → IfSo flag (w ≡ true) → (flag || w) ≡ true → w ≡ true
wanted_now true w h e = h
wanted_now false w h e = e

wanted_or : (flag w : Bool) → flag ≡ false → ((flag || w) ≡ false → w ≡ true) → w ≡ true
wanted_or true w e h = absurd (let c : true ≡ false = e in cc)
wanted_or false true e h = refl
wanted_or false false e h = h refl

related_leads : (s : VariableSet) (flag : Bool) (comparison : Comparison) (turned : Bool) (x y : Operand) → Leads flag s x → Leads flag s y → flag ≡ true → (has s (related comparison turned x y).left && has s (related comparison turned x y).right) ≡ true
related_leads s flag comparison true x y h g t = and_from (has s y) (has s x) (g t) (h t)
related_leads s flag comparison false x y h g t = and_from (has s x) (has s y) (h t) (g t)

related_has : (s : VariableSet) (comparison : Comparison) (turned : Bool) (x y : Operand) → has_test s (related comparison turned x y) ≡ true → (has s x ≡ true) × (has s y ≡ true)
related_has s comparison true x y h = (and_second (has s y) (has s x) h, and_first (has s y) (has s x) h)
related_has s comparison false x y h = (and_first (has s x) (has s y) h, and_second (has s x) (has s y) h)

picked_led : (flag : Bool) (P : Type 0) (s : VariableSet) (b : Bool) (x y : Operand) → Led flag P s x → Led flag P s y → Led flag P s (if b then x else y)
picked_led flag P s true x y h g = h
picked_led flag P s false x y h g = g

-- it is led by the flag alone, as it is by the flag or because a variable is wanted
led_by_flag : (flag w : Bool) (P : Type 0) → (w ≡ true → P) → (s : VariableSet) (y : Operand) → Led (flag || w) (w ≡ true) s y → Led flag P s y
led_by_flag flag w P so s y h = ((λ t. h.0 (or_left flag w t)), (λ e i. so (wanted_or flag w e (λ r. h.1 r i))))

-- arguments from number k on lead to addresses where the flags say so
abbrev pub AllLead : (ℕ → Bool) → ℕ → VariableSet → List Operand → Type 0
AllLead flags k s [] = Unit {0}
AllLead flags k s (x ∷ xs) = Leads (flags k) s x × AllLead flags (suc k) s xs

-- so many, of which these lead to addresses
abbrev pub ArgumentsLead : (ℕ → Bool) → ℕ → ℕ → VariableSet → List Operand → Type 0
ArgumentsLead flags k many s xs = AllLead flags k s xs × (length xs ≡ many)

module _ (wants : Wants) (own : ℕ → ℕ) (f : ℕ) (b : FunctionBounds) (l : Links) (enough : (g k : ℕ) → takes (b.parameters g) k ≡ true → k < own (l.callee g)) where
  abbrev Does : {Y : Type 0} (G : VariableSet → Type 0) (Is : VariableSet → Y → Type 0) (n loads tests : ℕ) (made : Made Y) → Type 0
  Does G Is n loads tests made = Marked wants own f b.variables G Is n loads tests made

  abbrev pub Keeps : Bool → Expression → Type 0
  Keeps flag e = KeepsWants wants l.callee f flag e

  abbrev pub loads_of : Bool → Expression → ℕ
  loads_of flag e = wanted wants l.callee f flag e

  -- the tests in an expression that count
  abbrev pub tests_of : Expression → ℕ
  tests_of e = open_in (wants f) e + void_in e

  -- an expression counts as an operand of a test, and as a test
  abbrev pub counts_operand : Expression → Bool
  counts_operand e = is_open_operand (wants f) e || is_void e

  abbrev pub counts_test : Expression → Bool
  counts_test e = is_open (wants f) e || is_void_test e

  abbrev pub Both : Bool → Bool → Type 0
  Both c d = (c ≡ true) × (d ≡ true)

  abbrev pub Counts : Expression → Type 0
  Counts e = Both (counts_operand e) (counts_test e)

  abbrev pub ValueDoes : Bool → Type 0 → ℕ → ℕ → (VariableSet → ℕ → Made Operand) → Type 1
  ValueDoes flag P k t h = (G : VariableSet → Type 0) (later : VariableSet) (n : ℕ) → Does G (Led flag P) n k t (h later n)

  -- the flags c and d say that what is made counts as an operand of a test, and as a test
  pub record WaysDo (flag c d : Bool) (k t : ℕ) (w : Ways) : Type 1 where
    pub value : (G : VariableSet → Type 0) (later : VariableSet) (n : ℕ) → Does G (Led flag (Both c d)) n k t (w.value later n)
    pub effect : (G : VariableSet → Type 0) (later : VariableSet) (n : ℕ) → Does G Any n k t (w.effect later n)
    pub condition : (G : VariableSet → Type 0) (later : VariableSet) (n : ℕ) → Does G (λ s x. flag ≡ false → Decides d s x) n k t (w.condition later n)

  value_effect : {k t : ℕ} (flag : Bool) (P : Type 0) (h : VariableSet → ℕ → Made Operand) → ValueDoes flag P k t h → (G : VariableSet → Type 0) (later : VariableSet) (n : ℕ) → Does G Any n k t (h later n ≫ λ x. skip)
  value_effect flag P h v G later n = more wants own f b.variables (omega arith) (omega arith) (chain wants own f b.variables (λ x. skip) (v G later n) (λ q y o. nothing_marked wants own f b.variables tt (λ s w g. tt)))

  value_condition : {k t : ℕ} (flag c d : Bool) (h : VariableSet → ℕ → Made Operand) → ValueDoes flag (Both c d) k t h → (G : VariableSet → Type 0) (later : VariableSet) (n : ℕ) → Does G (λ s x. flag ≡ false → Decides d s x) n k t (h later n ≫ λ x. nothing (isnt_zero x))
  value_condition flag c d h v G later n = more wants own f b.variables (omega arith) (omega arith) (chain wants own f b.variables (λ x. nothing (isnt_zero x)) (v G later n) (λ q y o. nothing_marked wants own f b.variables (isnt_zero y) (λ s w g e i. (g.1.1 e (and_first (has s y) true i)).1)))

  by_value_does : {k t : ℕ} (flag c d : Bool) (h : VariableSet → ℕ → Made Operand) → ValueDoes flag (Both c d) k t h → WaysDo flag c d k t (by_value h)
  by_value_does flag c d h v = record { value = v; effect = value_effect flag (Both c d) h v; condition = value_condition flag c d h v }

  -- a test
  pub decided : {G : VariableSet → Type 0} {c d : Bool} {k t n : ℕ} {w : Ways} (later : VariableSet) → WaysDo false c d k t w → Does G (Decides d) n k t (w.condition later n)
  decided {G} {c} {d} {k} {t} {n} later h = told wants own f b.variables (λ s x i. i refl) (h.condition G later n)

  -- a variable of the function that is wanted where the flag says so
  own_leads : (flag : Bool) (v : ℕ) → v < b.variables → IfSo flag (wants f v ≡ true) → (s : VariableSet) → OwnFits wants own f b.variables s → flag ≡ true → s v ≡ true
  own_leads flag v low h s w t = w v low ∙ if_so (wants f v ≡ true) flag h t

  own_counts : (v : ℕ) → wants f v ≡ true → Both ((wants f v || false) || false) ((wants f v || false) || false)
  own_counts v t = let c = or_left (wants f v || false) false (or_left (wants f v) false t) in (c, c)

  own_led : (flag : Bool) (v : ℕ) → v < b.variables → IfSo flag (wants f v ≡ true) → (s : VariableSet) → OwnFits wants own f b.variables s → Led flag (Both ((wants f v || false) || false) ((wants f v || false) || false)) s (Variable v)
  own_led flag v low h s w = (own_leads flag v low h s w, (λ e i. own_counts v (sym (w v low) ∙ i)))

  -- one variable that is set in both branches
  set_by_both : {G : VariableSet → Type 0} {n k t : ℕ} (flag : Bool) (P : Type 0) (made : Made (Unit {0})) → Does (λ s. G s × (s n ≡ flag)) Any (n + 1) k t made → Does G (Led flag P) n k t (made ≫ λ x. nothing (Variable n))
  set_by_both {G} {n} {k} {t} flag P made h = with_new wants own f b.variables flag (more wants own f b.variables (omega arith) (omega arith) (chain wants own f b.variables (λ x. nothing (Variable n)) h (λ q y o. nothing_marked wants own f b.variables (Variable n) (λ s w g. fresh_led flag P s n g.0.1))))

  -- the old value of a variable, what is made of it, and the assignment
  put_local : (flag : Bool) (P : Type 0) (v : ℕ) → v < b.variables → (s : VariableSet) → OwnFits wants own f b.variables s → (y : Operand) → Leads (flag || wants f v) s y → P → PutLeads s y (Local v) × Led flag P s y
  put_local flag P v low s w y h so = ((λ t. h (or_right flag (wants f v) (sym (w v low) ∙ t))), ((λ t. h (or_left flag (wants f v) t)), (λ e i. so)))

  -- ---- nodes

  -- a place in memory whose address is an operand
  abbrev SpotLeads : VariableSet → Assignee → Type 0
  SpotLeads s (Local v) = ⊥
  SpotLeads s (Placed checked x) = has s x ≡ true

  spot_held : (flag : Bool) (P : Type 0) (s : VariableSet) (o : Assignee) → SpotLeads s o → HeldLeads flag P s o
  spot_held flag P s (Local v) h = absurd h
  spot_held flag P s (Placed checked x) h = h

  spot_put : (s : VariableSet) (y : Operand) (o : Assignee) → SpotLeads s o → PutLeads s y o
  spot_put s y (Local v) h = absurd h
  spot_put s y (Placed checked x) h = h

  spot_does : {c d : Bool} {k t : ℕ} (checked : Bool) (a : Ways) → WaysDo true c d k t a → (G : VariableSet → Type 0) (later : VariableSet) (n : ℕ) → Does G SpotLeads n k t (a.value later n ≫ λ x. nothing (Placed checked x))
  spot_does checked a h G later n = more wants own f b.variables (omega arith) (omega arith) (chain wants own f b.variables (λ x. nothing (Placed checked x)) (h.value G later n) (λ q y o. nothing_marked wants own f b.variables (Placed checked y) (λ s w g. g.1.0 refl)))

  advanced_does : {G : VariableSet → Type 0} {n : ℕ} (flag : Bool) (P : Type 0) (p : Place) (kind : LoadKind) (change : ℕ) (o : Assignee) (x : Operand) → ((s : VariableSet) → OwnFits wants own f b.variables s → G s → Leads flag s x × ((y : Operand) → Leads flag s y → PutLeads s y o)) → Does G (Led flag P) n 0 0 (advanced p kind change o x n)
  advanced_does flag P p kind change o x h =
      more wants own f b.variables (omega arith) (omega arith) (chain wants own f b.variables (λ z n. narrowed p kind z n ≫ put_in p kind o) (set_marked wants own f b.variables flag P p (Binary Add x (Number change)) (λ s w g t. and_from (has s x) true ((h s w g).0 t) refl))
      (λ q z u. chain wants own f b.variables (put_in p kind o) (narrowed_marked wants own f b.variables flag P p kind z (λ s w g. g.1)) (λ q y u. put_marked wants own f b.variables flag P p kind o y (λ s w g. ((h s w g.0.0).1 y g.1.0, g.1)))))

  -- one more or less of a variable
  local_stepped : {G : VariableSet → Type 0} {n : ℕ} (flag : Bool) (P : Type 0) (p : Place) (kind : LoadKind) (v change : ℕ) (new copied : Bool) → v < b.variables → IfSo flag (wants f v ≡ true) → (wants f v ≡ true → P) →
      Does G (Led flag P) n 0 0 (variable copied p v n ≫ λ x n. advanced p kind change (Local v) x n ≫ λ y. nothing (if new then y else x))
  local_stepped flag P p kind v change new copied low h so =
      more wants own f b.variables (omega arith) (omega arith) (chain wants own f b.variables (λ x n. advanced p kind change (Local v) x n ≫ λ y. nothing (if new then y else x)) (variable_marked wants own f b.variables (flag || wants f v) (wants f v ≡ true) copied p v (λ s w g. ((λ t. w v low ∙ wanted_now flag (wants f v) h t), (λ e i. sym (w v low) ∙ i))))
      (λ q x o. chain wants own f b.variables (λ y. nothing (if new then y else x)) (advanced_does (flag || wants f v) (wants f v ≡ true) p kind change (Local v) x (λ s w g. (g.1.0, λ y i t. i (or_right flag (wants f v) (sym (w v low) ∙ t)))))
      (λ q y o. nothing_marked wants own f b.variables (if new then y else x) (λ s w g. picked_led flag P s new y x (led_by_flag flag (wants f v) P so s y g.1) (led_by_flag flag (wants f v) P so s x g.0.1)))))

  placed_stepped : {G : VariableSet → Type 0} {c d : Bool} {n k t : ℕ} (flag : Bool) (P : Type 0) (checked : Bool) (p : Place) (kind : LoadKind) (change : ℕ) (new : Bool) (copied later : VariableSet) (a : Ways) → WaysDo true c d k t a →
      Does G (Led flag P) n (bit flag + k) t (stepped p kind (λ later n. a.value later n ≫ λ x. nothing (Placed checked x)) change new copied later n)
  placed_stepped {G} {c} {d} {n} flag P checked p kind change new copied later a h =
      more wants own f b.variables (omega arith) (omega arith) (chain wants own f b.variables (λ o n. held p kind copied o n ≫ λ x n. advanced p kind change o x n ≫ λ y. nothing (if new then y else x)) (spot_does checked a h G later n)
      (λ q o u. chain wants own f b.variables (λ x n. advanced p kind change o x n ≫ λ y. nothing (if new then y else x)) (held_marked wants own f b.variables flag P p kind copied o (λ s w g. spot_held flag P s o g.1))
      (λ q x u. chain wants own f b.variables (λ y. nothing (if new then y else x)) (advanced_does flag P p kind change o x (λ s w g. (g.1.0, λ y i. spot_put s y o g.0.1)))
      (λ q y u. nothing_marked wants own f b.variables (if new then y else x) (λ s w g. picked_led flag P s new y x g.1 g.0.1)))))

  arguments_kept : (c : VariableSet) (flags : ℕ → Bool) (most : ℕ) → ((v : ℕ) → v < most → c v ≡ flags v) → (s : VariableSet) (k : ℕ) (ys : List Operand) → k + length ys ≤ most → AllLead flags k s ys → ArgumentsKept c s k ys
  arguments_kept c flags most h s k [] low g = tt
  arguments_kept c flags most h s k (y ∷ ys) low g =
      ((λ t. g.0 (sym (h k (omega (arith, low))) ∙ t)), arguments_kept c flags most h s (k + 1) ys (omega (arith, low)) (subst (λ (j : ℕ). AllLead flags j s ys) (let e : suc k ≡ k + 1 = omega arith in e) g.1))

  call_does : {G : VariableSet → Type 0} {n : ℕ} (flag : Bool) (P : Type 0) (p : Place) (g many : ℕ) (ys : List Operand) → many < own (l.callee g) → IfSo flag (wants (l.callee g) 0 ≡ true) → ((s : VariableSet) → OwnFits wants own f b.variables s → G s → ArgumentsLead (wants (l.callee g)) 1 many s ys) →
      Does G (Led flag P) n 0 0 (only (Do p (Expect (Room (l.callee g))) (one p (Call n (l.callee g) ys))) (Variable n) (n + 1))
  call_does {G} {n} flag P p g many ys low h lead = one_new wants own f b.variables flag (Do p (Expect (Room (l.callee g))) (one p (Call n (l.callee g) ys))) (Variable n) (λ all fits s w c is. (
    (
      tt,
      (
        record {
          arguments = let a = lead s w c in let e = a.1 in arguments_kept (all (l.callee g)) (wants (l.callee g)) (own (l.callee g)) (fits (l.callee g)) s 1 ys (omega (arith, low, e)) a.0;
          result = λ t. fits (l.callee g) 0 (omega (arith, low)) ∙ if_so (wants (l.callee g) 0 ≡ true) flag h (sym is ∙ t);
        },
        tt,
      ),
    ),
    omega arith,
    omega arith,
    fresh_led flag P s n is,
  ))

  printed_does : {G : VariableSet → Type 0} {n : ℕ} (flag : Bool) (P : Type 0) (p : Place) (y : Operand) → ((s : VariableSet) → OwnFits wants own f b.variables s → G s → Led flag P s y) → Does G (Led flag P) n 0 0 (only (one p (Print Byte y)) y n)
  printed_does flag P p y h = plain_code wants own f b.variables (one p (Print Byte y)) y (λ all fits s w g. ((tt, tt), omega arith, omega arith, h s w g))

  byte_does : {G : VariableSet → Type 0} {n : ℕ} (p : Place) (y : Operand) → Does G Any n 0 0 (emit (one p (Print Byte y)) n)
  byte_does p y = plain_code wants own f b.variables (one p (Print Byte y)) tt (λ all fits s w g. ((tt, tt), omega arith, omega arith, tt))

  halt_does : {G : VariableSet → Type 0} {n : ℕ} (flag : Bool) (P : Type 0) (p : Place) (y : Operand) → P → Does G (Led flag P) n 0 0 (only (one p (Halt y)) (Number 0) n)
  halt_does flag P p y so = plain_code wants own f b.variables (one p (Halt y)) (Number 0) (λ all fits s w g. ((tt, tt), omega arith, omega arith, ((λ t. refl), (λ e i. so))))

  -- ---- each expression

  mutual
    pub expression_does : (flag : Bool) (e : Expression) → is_sound b e ≡ true → Keeps flag e → WaysDo flag (counts_operand e) (counts_test e) (loads_of flag e) (tests_of e) (ways l e)
    expression_does flag (tree.Number k) h w = by_value_does flag true true (λ later. nothing (Number k)) (λ G later n. nothing_marked wants own f b.variables (Number k) (λ s o g. ((λ t. refl), (λ e i. (refl, refl)))))
    expression_does flag (tree.Address object offset) h w = by_value_does flag true true (ways l (tree.Address object offset)).value (λ G later n. nothing_marked wants own f b.variables (Number (plus (l.address object) offset)) (λ s o g. ((λ t. refl), (λ e i. (refl, refl)))))
    expression_does flag (tree.Frame p offset) h w = by_value_does flag true true (λ later. set p (FrameAddress offset)) (λ G later n. set_marked wants own f b.variables flag (Both true true) p (FrameAddress offset) (λ s o g t. refl))
    expression_does flag (tree.Variable p v) h w =
        let c = (wants f v || false) || false in
        let low = ltb-true v b.variables h in
        record {
          value = λ G later n. variable_marked wants own f b.variables flag (Both c c) (later v) p v (λ s o g. own_led flag v low w s o);
          effect = λ G later n. nothing_marked wants own f b.variables tt (λ s o g. tt);
          condition = value_condition flag c c (ways l (tree.Variable p v)).value (λ G later n. variable_marked wants own f b.variables flag (Both c c) (later v) p v (λ s o g. own_led flag v low w s o));
        }
    expression_does flag (tree.Read p kind checked a) h w =
        let e = tree.Read p kind checked a in
        by_value_does flag (counts_operand e) (counts_test e) (ways l e).value (λ G later n. more wants own f b.variables (omega arith) (omega arith) (chain wants own f b.variables (fetched p kind checked) ((expression_does true a (and_second _ _ h) w).value G later n) (λ q y o. fetched_marked wants own f b.variables flag (Counts e) p kind checked y (λ s o g. g.1.0 refl))))
    expression_does flag (tree.Convert p kind a) h w =
        let e = tree.Convert p kind a in
        let go : ValueDoes flag (Counts e) (loads_of flag a) (tests_of a) (λ later n. (ways l a).value later n ≫ narrowed p kind) = λ G later n. more wants own f b.variables (omega arith) (omega arith) (chain wants own f b.variables (narrowed p kind) ((expression_does flag a h w).value G later n) (λ q y o. narrowed_marked wants own f b.variables flag (Counts e) p kind y (λ s o g. (g.1.0, λ r i. let c = g.1.1 r i in (c.0, c.0))))) in
        record {
          value = go;
          effect = (expression_does flag a h w).effect;
          condition = value_condition flag (counts_operand e) (counts_test e) (λ later n. (ways l a).value later n ≫ narrowed p kind) go;
        }
    expression_does flag (tree.Not p a) h w =
        let e = tree.Not p a in
        record {
          value = λ G later n. more wants own f b.variables (omega arith) (omega arith) (chain wants own f b.variables (λ x. set p (Holds (test_of Equal x (Number 0)))) ((expression_does flag a h w).value G later n) (λ q y o. set_marked wants own f b.variables flag (Counts e) p (Holds (test_of Equal y (Number 0))) (λ s o g t. and_from (has s y) true (g.1.0 t) refl)));
          effect = (expression_does flag a h w).effect;
          condition = λ G later n. more wants own f b.variables (omega arith) (omega arith) (chain wants own f b.variables (λ c. nothing (turn c)) ((expression_does flag a h w).condition G later n) (λ q y o. nothing_marked wants own f b.variables (turn y) (λ s o g. g.1)));
        }
    expression_does flag (tree.Binary p operator x y) h w =
        let e = tree.Binary p operator x y in
        by_value_does flag (counts_operand e) (counts_test e) (ways l e).value (λ G later n. more wants own f b.variables (omega arith) (omega arith) (chain wants own f b.variables (λ x n. (ways l y).value later n ≫ operated p operator x) ((expression_does flag x (and_first _ _ h) w.0).value G (or later (assigned y)) n)
        (λ q u o. chain wants own f b.variables (operated p operator u) ((expression_does flag y (and_second _ _ h) w.1).value _ later q) (λ q v o. operated_marked wants own f b.variables flag (Counts e) p operator u v (λ s o g. (g.0.1.0, g.1.0))))))
    expression_does flag (tree.Compare p comparison turned x y) h w =
        let e = tree.Compare p comparison turned x y in
        record {
          value = λ G later n. more wants own f b.variables (omega arith) (omega arith) (chain wants own f b.variables (λ x n. (ways l y).value later n ≫ λ y. set p (Holds (related comparison turned x y))) ((expression_does flag x (and_first _ _ h) w.0).value G (or later (assigned y)) n)
              (λ q u o. chain wants own f b.variables (λ v. set p (Holds (related comparison turned u v))) ((expression_does flag y (and_second _ _ h) w.1).value _ later q) (λ q v o. set_marked wants own f b.variables flag (Counts e) p (Holds (related comparison turned u v)) (λ s o g. related_leads s flag comparison turned u v g.0.1.0 g.1.0))));
          effect = λ G later n. more wants own f b.variables (omega arith) (omega arith) (chain wants own f b.variables (λ x. (ways l y).effect later) ((expression_does flag x (and_first _ _ h) w.0).effect G (or later (assigned y)) n) (λ q u o. (expression_does flag y (and_second _ _ h) w.1).effect _ later q));
          condition = λ G later n. more wants own f b.variables (omega arith) (omega arith) (chain wants own f b.variables (λ x n. (ways l y).value later n ≫ λ y. nothing (record { test = related comparison turned x y; turned = false })) ((expression_does flag x (and_first _ _ h) w.0).value G (or later (assigned y)) n)
              (λ q u o. chain wants own f b.variables (λ v. nothing (record { test = related comparison turned u v; turned = false })) ((expression_does flag y (and_second _ _ h) w.1).value _ later q) (λ q v o. nothing_marked wants own f b.variables (record { test = related comparison turned u v; turned = false })
              (λ s o g r i. let c = related_has s comparison turned u v i in compared_counts (is_open_operand (wants f) x) (is_void x) (is_open_operand (wants f) y) (is_void y) (g.0.1.1 r c.0).0 (g.1.1 r c.1).0))));
        }
    expression_does flag (tree.And p x y) h w =
        let e = tree.And p x y in
        let one = either_bit (is_open (wants f) x) (is_void_test x) in
        let other = either_bit (is_open (wants f) y) (is_void_test y) in
        by_value_does flag (counts_operand e) (counts_test e) (ways l e).value (λ G later n. set_by_both flag (Counts e) _ (more wants own f b.variables (omega arith) (omega (arith, one, other)) (branches_marked wants own f b.variables (counts_test x) p _ _ (decided (or later (assigned y)) (expression_does false x (and_first _ _ h) w.0))
        (λ q o. branches_marked wants own f b.variables (counts_test y) p _ _ (decided later (expression_does false y (and_second _ _ h) w.1)) (λ q o. gives_marked wants own f b.variables flag p (Number 1) (λ s o g. (g.1, λ t. refl))) (λ q o. gives_marked wants own f b.variables flag p (Number 0) (λ s o g. (g.1, λ t. refl))))
        (λ q o. gives_marked wants own f b.variables flag p (Number 0) (λ s o g. (g.1, λ t. refl))))))
    expression_does flag (tree.Or p x y) h w =
        let e = tree.Or p x y in
        let one = either_bit (is_open (wants f) x) (is_void_test x) in
        let other = either_bit (is_open (wants f) y) (is_void_test y) in
        by_value_does flag (counts_operand e) (counts_test e) (ways l e).value (λ G later n. set_by_both flag (Counts e) _ (more wants own f b.variables (omega arith) (omega (arith, one, other)) (branches_marked wants own f b.variables (counts_test x) p _ _ (decided (or later (assigned y)) (expression_does false x (and_first _ _ h) w.0))
        (λ q o. gives_marked wants own f b.variables flag p (Number 1) (λ s o g. (g.1, λ t. refl)))
        (λ q o. branches_marked wants own f b.variables (counts_test y) p _ _ (decided later (expression_does false y (and_second _ _ h) w.1)) (λ q o. gives_marked wants own f b.variables flag p (Number 1) (λ s o g. (g.1, λ t. refl))) (λ q o. gives_marked wants own f b.variables flag p (Number 0) (λ s o g. (g.1, λ t. refl)))))))
    expression_does flag (tree.Conditional p x y z) h w =
        let e = tree.Conditional p x y z in
        let t = or (assigned y) (assigned z) in
        let one = either_bit (is_open (wants f) x) (is_void_test x) in
        let go : ValueDoes flag (Counts e) (loads_of flag e) (tests_of e) (chosen p t (ways l x) (ways l y) (ways l z)) = λ G later n. set_by_both flag (Counts e) _ (more wants own f b.variables (omega arith) (omega (arith, one)) (branches_marked wants own f b.variables (counts_test x) p _ _ (decided (or later t) (expression_does false x (and_first _ _ h) w.0))
        (λ q o. chain wants own f b.variables (gives p n) ((expression_does flag y (and_first _ _ (and_second _ _ h)) w.1).value _ later q) (λ q u o. gives_marked wants own f b.variables flag p u (λ s o g. (g.0.1, g.1.0))))
        (λ q o. chain wants own f b.variables (gives p n) ((expression_does flag z (and_second _ _ (and_second _ _ h)) w.2).value _ later q) (λ q u o. gives_marked wants own f b.variables flag p u (λ s o g. (g.0.1, g.1.0)))))) in
        record {
          value = go;
          effect = λ G later n. more wants own f b.variables (omega arith) (omega (arith, one)) (branches_marked wants own f b.variables (counts_test x) p _ _ (decided (or later t) (expression_does false x (and_first _ _ h) w.0)) (λ q o. (expression_does flag y (and_first _ _ (and_second _ _ h)) w.1).effect _ later q) (λ q o. (expression_does flag z (and_second _ _ (and_second _ _ h)) w.2).effect _ later q));
          condition = value_condition flag (counts_operand e) (counts_test e) (chosen p t (ways l x) (ways l y) (ways l z)) go;
        }
    expression_does flag (tree.Comma x y) h w = record {
      value = λ G later n. more wants own f b.variables (omega arith) (omega arith) (chain wants own f b.variables (λ x. (ways l y).value later) ((expression_does false x (and_first _ _ h) w.0).effect G (or later (assigned y)) n) (λ q u o. told wants own f b.variables (λ s y i. (i.0, λ r j. (refl, refl))) ((expression_does flag y (and_second _ _ h) w.1).value _ later q)));
      effect = λ G later n. more wants own f b.variables (omega arith) (omega arith) (chain wants own f b.variables (λ x. (ways l y).effect later) ((expression_does false x (and_first _ _ h) w.0).effect G (or later (assigned y)) n) (λ q u o. (expression_does flag y (and_second _ _ h) w.1).effect _ later q));
      condition = λ G later n. more wants own f b.variables (omega arith) (omega arith) (chain wants own f b.variables (λ x. (ways l y).condition later) ((expression_does false x (and_first _ _ h) w.0).effect G (or later (assigned y)) n) (λ q u o. told wants own f b.variables (λ s c i r j. refl) ((expression_does flag y (and_second _ _ h) w.1).condition _ later q)));
    }
    expression_does flag (tree.Assign p kind (tree.InVariable v) x) h w =
        by_value_does flag true true (ways l (tree.Assign p kind (tree.InVariable v) x)).value (λ G later n. more wants own f b.variables (omega arith) (omega arith) (chain wants own f b.variables (put_in p kind (Local v)) ((expression_does (flag || wants f v) x (and_second _ _ h) w).value G later n)
        (λ q y o. put_marked wants own f b.variables flag (Both true true) p kind (Local v) y (λ s o g. put_local flag (Both true true) v (ltb-true v b.variables (and_second _ _ (and_first _ _ h))) s o y g.1.0 (refl, refl)))))
    expression_does flag (tree.Assign p kind (tree.AtAddress checked a) x) h w =
        by_value_does flag true true (ways l (tree.Assign p kind (tree.AtAddress checked a) x)).value (λ G later n. more wants own f b.variables (omega arith) (omega arith) (chain wants own f b.variables (λ o n. (ways l x).value later n ≫ put_in p kind o) (spot_does checked (ways l a) (expression_does true a (and_second _ _ (and_first _ _ h)) w.0) G (or later (assigned x)) n)
        (λ q o u. chain wants own f b.variables (put_in p kind o) ((expression_does flag x (and_second _ _ h) w.1).value _ later q) (λ q y u. put_marked wants own f b.variables flag (Both true true) p kind o y (λ s c g. (spot_put s y o g.0.1, (g.1.0, λ r i. (refl, refl))))))))
    expression_does flag (tree.Update p kind (tree.InVariable v) operator x) h w =
        by_value_does flag true true (ways l (tree.Update p kind (tree.InVariable v) operator x)).value (λ G later n. more wants own f b.variables (omega arith) (omega arith) (chain wants own f b.variables (λ u n. (ways l x).value later n ≫ λ y n. operated p operator u y n ≫ λ z n. narrowed p kind z n ≫ put_in p kind (Local v))
        (variable_marked wants own f b.variables (flag || wants f v) (Unit {0}) (or later (assigned x) v) p v (λ s c g. ((λ t. c v (ltb-true v b.variables (and_second _ _ (and_first _ _ h))) ∙ wanted_now flag (wants f v) w.0 t), (λ r i. tt))))
        (λ q u o. chain wants own f b.variables (λ y n. operated p operator u y n ≫ λ z n. narrowed p kind z n ≫ put_in p kind (Local v)) ((expression_does (flag || wants f v) x (and_second _ _ h) w.1).value _ later q)
        (λ q y o. chain wants own f b.variables (λ z n. narrowed p kind z n ≫ put_in p kind (Local v)) (operated_marked wants own f b.variables (flag || wants f v) (Unit {0}) p operator u y (λ s c g. (g.0.1.0, g.1.0)))
        (λ q z o. chain wants own f b.variables (put_in p kind (Local v)) (narrowed_marked wants own f b.variables (flag || wants f v) (Unit {0}) p kind z (λ s c g. g.1))
        (λ q r o. put_marked wants own f b.variables flag (Both true true) p kind (Local v) r (λ s c g. put_local flag (Both true true) v (ltb-true v b.variables (and_second _ _ (and_first _ _ h))) s c r g.1.0 (refl, refl))))))))
    expression_does flag (tree.Update p kind (tree.AtAddress checked a) operator x) h w =
        by_value_does flag true true (ways l (tree.Update p kind (tree.AtAddress checked a) operator x)).value (λ G later n. more wants own f b.variables (omega arith) (omega arith) (chain wants own f b.variables (λ o n. held p kind (or later (assigned x)) o n ≫ λ u n. (ways l x).value later n ≫ λ y n. operated p operator u y n ≫ λ z n. narrowed p kind z n ≫ put_in p kind o)
        (spot_does checked (ways l a) (expression_does true a (and_second _ _ (and_first _ _ h)) w.0) G (or later (assigned x)) n)
        (λ q o t. chain wants own f b.variables (λ u n. (ways l x).value later n ≫ λ y n. operated p operator u y n ≫ λ z n. narrowed p kind z n ≫ put_in p kind o) (held_marked wants own f b.variables flag (Unit {0}) p kind (or later (assigned x)) o (λ s c g. spot_held flag (Unit {0}) s o g.1))
        (λ q u t. chain wants own f b.variables (λ y n. operated p operator u y n ≫ λ z n. narrowed p kind z n ≫ put_in p kind o) ((expression_does flag x (and_second _ _ h) w.1).value _ later q)
        (λ q y t. chain wants own f b.variables (λ z n. narrowed p kind z n ≫ put_in p kind o) (operated_marked wants own f b.variables flag (Unit {0}) p operator u y (λ s c g. (g.0.1.0, g.1.0)))
        (λ q z t. chain wants own f b.variables (put_in p kind o) (narrowed_marked wants own f b.variables flag (Unit {0}) p kind z (λ s c g. g.1))
        (λ q r t. put_marked wants own f b.variables flag (Both true true) p kind o r (λ s c g. (spot_put s r o g.0.0.0.0.1, (g.1.0, λ e i. (refl, refl)))))))))))
    expression_does flag (tree.Step p kind (tree.InVariable v) change new) h w =
        let c = (wants f v || false) || false in
        let low = ltb-true v b.variables (and_second _ _ (and_first _ _ h)) in
        record {
          value = λ G later n. local_stepped flag (Both c c) p kind v change new ((if new then later else or later (assigned_target (tree.InVariable v))) v) low w (own_counts v);
          effect = value_effect flag (Both c c) (λ later n. stepped p kind (spot l (tree.InVariable v)) change true later later n) (λ G later n. local_stepped flag (Both c c) p kind v change true (later v) low w (own_counts v));
          condition = value_condition flag c c (ways l (tree.Step p kind (tree.InVariable v) change new)).value (λ G later n. local_stepped flag (Both c c) p kind v change new ((if new then later else or later (assigned_target (tree.InVariable v))) v) low w (own_counts v));
        }
    expression_does flag (tree.Step p kind (tree.AtAddress checked a) change new) h w =
        let t = tree.AtAddress checked a in
        let e = tree.Step p kind t change new in
        let d = expression_does true a (and_second _ _ (and_first _ _ h)) w in
        record {
          value = λ G later n. placed_stepped flag (Counts e) checked p kind change new (if new then later else or later (assigned_target t)) later (ways l a) d;
          effect = value_effect flag (Counts e) (λ later n. stepped p kind (spot l t) change true later later n) (λ G later n. placed_stepped flag (Counts e) checked p kind change true later later (ways l a) d);
          condition = value_condition flag (counts_operand e) (counts_test e) (ways l e).value (λ G later n. placed_stepped flag (Counts e) checked p kind change new (if new then later else or later (assigned_target t)) later (ways l a) d);
        }
    expression_does flag (tree.Call p g xs) h w =
        let e = tree.Call p g xs in
        by_value_does flag (counts_operand e) (counts_test e) (ways l e).value (λ G later n. more wants own f b.variables (omega arith) (omega arith) (chain wants own f b.variables (λ ys n. only (Do p (Expect (Room (l.callee g))) (one p (Call n (l.callee g) ys))) (Variable n) (n + 1)) (arguments_do (l.callee g) 1 xs (and_second _ _ h) w.1 G later n)
        (λ q ys o. call_does flag (Counts e) p g (count xs) ys (enough g (count xs) (and_first _ _ h)) w.0 (λ s c i. i.1))))
    expression_does flag (tree.Putchar p a) h w =
        let e = tree.Putchar p a in
        let go : ValueDoes flag (Counts e) (loads_of flag a) (tests_of a) (λ later n. (ways l a).value later n ≫ λ x n. only (one p (Print Byte x)) x n ≫ λ x. set p (Extended U8 x)) =
        λ G later n. more wants own f b.variables (omega arith) (omega arith) (chain wants own f b.variables (λ x n. only (one p (Print Byte x)) x n ≫ λ x. set p (Extended U8 x)) ((expression_does flag a h w).value G later n)
        (λ q y o. chain wants own f b.variables (λ x. set p (Extended U8 x)) (printed_does flag (Counts a) p y (λ s c g. g.1)) (λ q z o. set_marked wants own f b.variables flag (Counts e) p (Extended U8 z) (λ s c g. g.1.0)))) in
        record {
          value = go;
          effect = λ G later n. more wants own f b.variables (omega arith) (omega arith) (chain wants own f b.variables (λ x. emit (one p (Print Byte x))) ((expression_does flag a h w).value G later n) (λ q y o. byte_does p y));
          condition = value_condition flag (counts_operand e) (counts_test e) (λ later n. (ways l a).value later n ≫ λ x n. only (one p (Print Byte x)) x n ≫ λ x. set p (Extended U8 x)) go;
        }
    expression_does flag (tree.Exit p a) h w =
        let e = tree.Exit p a in
        let c = or_true (is_open_operand (wants f) e) in
        by_value_does flag (counts_operand e) (counts_test e) (ways l e).value (λ G later n. more wants own f b.variables (omega arith) (omega arith) (chain wants own f b.variables (λ x. only (one p (Halt x)) (Number 0)) ((expression_does false a h w).value G later n) (λ q y o. halt_does flag (Counts e) p y (c, c))))
    expression_does flag (tree.Abort p) h w = by_value_does flag true true (λ later. only (one p (Expect Abort)) (Number 0)) (λ G later n. plain_code wants own f b.variables (one p (Expect Abort)) (Number 0) (λ all fits s c g. ((tt, tt), omega arith, omega arith, ((λ t. refl), (λ e i. (refl, refl))))))

    arguments_do : (g k : ℕ) (xs : Expressions) → are_sound b xs ≡ true → KeepArguments wants l.callee f g k xs → (G : VariableSet → Type 0) (later : VariableSet) (n : ℕ) → Does G (ArgumentsLead (wants g) k (count xs)) n (wanted_arguments wants l.callee f g k xs) (open_in_all (wants f) xs + void_in_all xs) (operands l xs later n)
    arguments_do g k tree.no_expressions h w G later n = more wants own f b.variables (omega arith) (omega arith) (nothing_marked wants own f b.variables [] (λ s c g. (tt, refl)))
    arguments_do g k (tree.expression_then x xs) h w G later n =
        more wants own f b.variables (omega arith) (omega arith) (chain wants own f b.variables (λ x n. operands l xs later n ≫ λ xs. nothing (x ∷ xs)) ((expression_does (wants g k) x (and_first _ _ h) w.0).value G (or later (assigned_all xs)) n)
        (λ q y o. chain wants own f b.variables (λ ys. nothing (y ∷ ys)) (arguments_do g (suc k) xs (and_second _ _ h) w.1 _ later q) (λ q ys o. nothing_marked wants own f b.variables (y ∷ ys) (λ s c i. ((i.0.1.0, i.1.0), ap suc i.1.1)))))
