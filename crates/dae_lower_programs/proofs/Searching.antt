-- Labels and arms of a switch, one after the other; and whether statements continue a loop.
use Rattle.std.proofs.Common.{◌≡◌, ℕ, suc, ◌+◌, ◌<◌, ◌≤◌, Bool, true, false, ◌||◌, if◌then◌else◌, List, [], ◌∷◌, ◌++◌, length, drop, get_or, Option, Some, None, refl, ap, sym, ◌∙◌, arith}
use Rattle.std.proofs.lemmas.List.{drop_all}
use Rattle.dae_base.proofs.Laws.{drop_at}
use Rattle.dae_base.specs.declared.Place.{Place}
use Rattle.dae_ir.specs.Code.{Done}
use Rattle.dae_ir.specs.Form.{Form, before, form_of}
use Rattle.dae_ir.specs.declared.form.Item.TheVariants.{Break}
use Rattle.dae_ir.specs.declared.form.Operand.{Operand}
use Rattle.dae_ir.specs.declared.form.Statement.{Statement as FormStatement, Simple}
use Rattle.dae_lower.specs.Lowering.{arms_continue, continues, search, search_labels, ◌⨾◌}
use Rattle.dae_program.proofs.LawsOfTrees.{arms_at, arms_end, statements_at}
use Rattle.dae_lower_programs.specs.Parts.{label_then}
use Rattle.dae_lower_maker.proofs.Laws.{behind_behind, form_of_pushed}
use Rattle.dae_program.specs.declared.statements.Arm.{Arm}
use Rattle.dae_program.specs.declared.statements.Statement.{Statement}
use Rattle.dae_program.specs.declared.statements.Statement.TheVariants as statement
use Rattle.dae_program.specs.Switches.{arm_with, count_arms, has_label}
use Rattle.dae_program.specs.Trees as tree
use Rattle.dae_program.specs.Views.{row_then, statement_then, view_arms, view_statements, arms_of}

-- ---- the default

first_or_rest : (x : Option ℕ) (xs : List (Option ℕ)) → has_label None (x ∷ xs) ≡ (has_label None (x ∷ []) || has_label None xs)
first_or_rest None xs = refl
first_or_rest (Some k) xs = refl

pub default_found : (xs : List (Option ℕ)) (i : ℕ) (x : Option ℕ) → i < length xs → x ≡ get_or xs i x → has_label None (drop i xs) ≡ has_label None xs → has_label None (x ∷ []) ≡ true → true ≡ has_label None xs
default_found xs i x lt is h e = sym (ap (λ b. b || has_label None (drop (i + 1) xs)) e) ∙ sym (first_or_rest x (drop (i + 1) xs)) ∙ sym (ap (has_label None) (drop_at xs i x lt is)) ∙ h

pub default_further : (xs : List (Option ℕ)) (i : ℕ) (x : Option ℕ) → i < length xs → x ≡ get_or xs i x → has_label None (drop i xs) ≡ has_label None xs → has_label None (x ∷ []) ≡ false → has_label None (drop (i + 1) xs) ≡ has_label None xs
default_further xs i x lt is h e = sym (ap (λ b. b || has_label None (drop (i + 1) xs)) e) ∙ sym (first_or_rest x (drop (i + 1) xs)) ∙ sym (ap (has_label None) (drop_at xs i x lt is)) ∙ h

pub no_default : (xs : List (Option ℕ)) (i : ℕ) → length xs ≤ i → has_label None (drop i xs) ≡ has_label None xs → false ≡ has_label None xs
no_default xs i le h = sym (ap (has_label None) (drop_all i xs le)) ∙ h

-- none of the arms before one of this number has the default
pub record Undecided (xs : List Arm) (i number : ℕ) : Type 0 where
  pub place : number ≡ i
  pub same : (other : ℕ) → arm_with None i (arms_of (drop i xs)) other ≡ arm_with None 0 (arms_of xs) other
  pub count : i + count_arms (arms_of (drop i xs)) ≡ count_arms (arms_of xs)

pub first_undecided : (xs : List Arm) → Undecided xs 0 0
first_undecided xs = record { place = refl; same = λ other. refl; count = nothing_more (count_arms (arms_of xs)) } where
  nothing_more : (n : ℕ) → 0 + n ≡ n
  nothing_more n = omega arith

one_further : (i n k : ℕ) → i + suc n ≡ k → (i + 1) + n ≡ k
one_further i n k e = omega (arith, e)

pub one_more : (i : ℕ) → suc i ≡ i + 1
one_more i = omega arith

arm_here : (i : ℕ) (a : Arm) (rest : tree.Arms) (other : ℕ) (b : Bool) → has_label None a.labels.items ≡ b → arm_with None i (tree.arm_then a.labels.items (view_statements a.statements.items) rest) other ≡ (if b then i else arm_with None (i + 1) rest other)
arm_here i a rest other b e = ap (λ c. if c then i else arm_with None (suc i) rest other) e ∙ ap (λ k. if b then i else arm_with None k rest other) (one_more i)

pub next_undecided : (xs : List Arm) (i number new : ℕ) (a : Arm) → i < length xs → a ≡ get_or xs i a → Undecided xs i number → has_label None a.labels.items ≡ false → new ≡ number + 1 → Undecided xs (i + 1) new
next_undecided xs i number new a lt is h e more = record {
  place = more ∙ ap (λ n. n + 1) h.place;
  same = λ other. sym (arm_here i a (arms_of (drop (i + 1) xs)) other false e) ∙ sym (ap (λ arms. arm_with None i arms other) (arms_at xs i a lt is)) ∙ h.same other;
  count = one_further i (count_arms (arms_of (drop (i + 1) xs))) (count_arms (arms_of xs)) (sym (ap (λ arms. i + count_arms arms) (arms_at xs i a lt is)) ∙ h.count);
}

pub arm_found : (xs : List Arm) (i number : ℕ) (a : Arm) → i < length xs → a ≡ get_or xs i a → Undecided xs i number → has_label None a.labels.items ≡ true → number ≡ arm_with None 0 (arms_of xs) (count_arms (arms_of xs))
arm_found xs i number a lt is h e =
    let other = count_arms (arms_of xs) in
    h.place ∙ sym (arm_here i a (arms_of (drop (i + 1) xs)) other true e) ∙ sym (ap (λ arms. arm_with None i arms other) (arms_at xs i a lt is)) ∙ h.same other

at_end : (i k : ℕ) → i + 0 ≡ k → i ≡ k
at_end i k e = omega (arith, e)

pub none_found : (xs : List Arm) (i number : ℕ) → length xs ≤ i → Undecided xs i number → number ≡ arm_with None 0 (arms_of xs) (count_arms (arms_of xs))
none_found xs i number le h =
    let other = count_arms (arms_of xs) in
    h.place ∙ at_end i other (sym (ap (λ arms. i + count_arms arms) (arms_end xs i le)) ∙ h.count) ∙ sym (ap (λ arms. arm_with None i arms other) (arms_end xs i le)) ∙ h.same other

-- ---- the search

pub label_asked : (xs ys : List FormStatement) (s : FormStatement) (p : Place) (x : Operand) (v number label : ℕ) → ys ≡ xs ++ s ∷ [] → ((k : Form) → before s k ≡ label_then p x v number label k) → (rest : Form) → (form_of ys ⨾ rest) ≡ (form_of xs ⨾ label_then p x v number label rest)
label_asked xs ys s p x v number label e h rest =
    ap (λ (zs : List FormStatement). form_of zs ⨾ rest) e ∙ ap (λ (f : Form). f ⨾ rest) (form_of_pushed xs s ∙ ap (λ (f : Form). form_of xs ⨾ f) (h Done)) ∙ behind_behind (form_of xs) (label_then p x v number label Done) rest

abbrev pub Asks : Place → Operand → (v number : ℕ) → List (Option ℕ) → (old new : Form) → Type 0
Asks p x v number labels old new = (rest : Form) → (new ⨾ rest) ≡ (old ⨾ search_labels p x v number labels rest)

label_first : (p : Place) (x : Operand) (v number : ℕ) (y : Option ℕ) (ys : List (Option ℕ)) (rest : Form) → search_labels p x v number (y ∷ ys) rest ≡ search_labels p x v number (y ∷ []) (search_labels p x v number ys rest)
label_first p x v number None ys rest = refl
label_first p x v number (Some k) ys rest = refl

-- the labels before one are asked, and those from there on are to be
abbrev pub Asked : Place → Operand → (v number : ℕ) → List (Option ℕ) → ℕ → (old now : Form) → Type 0
Asked p x v number labels i old now = (rest : Form) → (now ⨾ search_labels p x v number (drop i labels) rest) ≡ (old ⨾ search_labels p x v number labels rest)

pub next_asked : (p : Place) (x : Operand) (v number : ℕ) (labels : List (Option ℕ)) (i : ℕ) (y : Option ℕ) (old now new : Form) → i < length labels → y ≡ get_or labels i y → Asked p x v number labels i old now → Asks p x v number (y ∷ []) now new → Asked p x v number labels (i + 1) old new
next_asked p x v number labels i y old now new lt is h k = λ rest.
    k (search_labels p x v number (drop (i + 1) labels) rest)
    ∙ sym (ap (λ (f : Form). now ⨾ f) (label_first p x v number y (drop (i + 1) labels) rest))
    ∙ sym (ap (λ ls. now ⨾ search_labels p x v number ls rest) (drop_at labels i y lt is)) ∙ h rest

pub all_asked : (p : Place) (x : Operand) (v number : ℕ) (labels : List (Option ℕ)) (i : ℕ) (old now : Form) → length labels ≤ i → Asked p x v number labels i old now → Asks p x v number labels old now
all_asked p x v number labels i old now le h = λ rest.
    sym (ap (λ ls. now ⨾ search_labels p x v number ls rest) (drop_all i labels le)) ∙ h rest

-- the arms before one are searched
pub record Searched (p : Place) (x : Operand) (v : ℕ) (xs : List Arm) (i number : ℕ) (now : Form) : Type 0 where
  pub place : number ≡ i
  pub same : (now ⨾ search p x v i (arms_of (drop i xs))) ≡ search p x v 0 (arms_of xs)

pub first_searched : (p : Place) (x : Operand) (v : ℕ) (xs : List Arm) (block : List FormStatement) → block ≡ [] → Searched p x v xs 0 0 (form_of block)
first_searched p x v xs block e = record { place = refl; same = ap (λ (ys : List FormStatement). form_of ys ⨾ search p x v 0 (arms_of xs)) e }

pub next_searched : (p : Place) (x : Operand) (v : ℕ) (xs : List Arm) (i number more : ℕ) (now new : Form) (a : Arm) → i < length xs → a ≡ get_or xs i a → more ≡ number + 1 → Searched p x v xs i number now → Asks p x v number a.labels.items now new → Searched p x v xs (i + 1) more new
next_searched p x v xs i number more now new a lt is e h k = record {
  place = e ∙ ap (λ n. n + 1) h.place;
  same = k (search p x v (i + 1) (arms_of (drop (i + 1) xs)))
      ∙ ap (λ n. now ⨾ search_labels p x v n a.labels.items (search p x v (i + 1) (arms_of (drop (i + 1) xs)))) h.place
      ∙ sym (ap (λ k. now ⨾ search_labels p x v i a.labels.items (search p x v k (arms_of (drop (i + 1) xs)))) (one_more i))
      ∙ sym (ap (λ arms. now ⨾ search p x v i arms) (arms_at xs i a lt is)) ∙ h.same;
}

pub all_searched : (p : Place) (x : Operand) (v : ℕ) (xs : List Arm) (i number : ℕ) (block all : List FormStatement) → length xs ≤ i → all ≡ block ++ Simple p Break ∷ [] → Searched p x v xs i number (form_of block) → form_of all ≡ search p x v 0 (arms_of xs)
all_searched p x v xs i number block all le e h =
    ap form_of e ∙ form_of_pushed block (Simple p Break) ∙ sym (ap (λ arms. form_of block ⨾ search p x v i arms) (arms_end xs i le)) ∙ h.same

-- ---- continues

or_nothing : (a : Bool) → a ≡ (a || false)
or_nothing true = refl
or_nothing false = refl

both_first : (a b c : Bool) → (a || (b || c)) ≡ ((a || (b || false)) || c)
both_first true b c = refl
both_first false true c = refl
both_first false false c = refl

one_first : (a c : Bool) → (a || c) ≡ ((a || false) || c)
one_first true c = refl
one_first false c = refl

pub continues_first : (s : Statement) (k : tree.Statements) → continues (statement_then s k) ≡ (continues (statement_then s tree.Done) || continues k)
continues_first (statement.Evaluate p e) k = refl
continues_first (statement.Initialise p offset size items) k = refl
continues_first (statement.Print p xs pieces) k = refl
continues_first (statement.If' p e b s c t) k = both_first (continues (row_then s tree.Done)) (continues (row_then t tree.Done)) (continues k)
continues_first (statement.Loop' p test b body step) k = refl
continues_first (statement.Do' p b body test) k = refl
continues_first (statement.Switch' p e b arms) k = one_first (arms_continue (view_arms arms)) (continues k)
continues_first (statement.Break p) k = refl
continues_first (statement.Continue p) k = refl
continues_first (statement.Return p e) k = refl

pub none_or : (a b : Bool) → a ≡ false → (a || (b || false)) ≡ b
none_or true b e = absurd cc
none_or false b e = sym (or_nothing b)

pub or_none : (a : Bool) → (a || false) ≡ a
or_none a = sym (or_nothing a)

pub statement_at : (xs : List Statement) (i : ℕ) (x : Statement) (b : Bool) → i < length xs → x ≡ get_or xs i x → continues (view_statements (drop i xs)) ≡ continues (view_statements xs) → b ≡ continues (statement_then x tree.Done) → (b || continues (view_statements (drop (i + 1) xs))) ≡ continues (view_statements xs)
statement_at xs i x b lt is h e = ap (λ c. c || continues (view_statements (drop (i + 1) xs))) e ∙ sym (continues_first x (view_statements (drop (i + 1) xs))) ∙ sym (ap continues (statements_at xs i x lt is)) ∙ h

pub arm_at : (xs : List Arm) (i : ℕ) (a : Arm) (b : Bool) → i < length xs → a ≡ get_or xs i a → arms_continue (arms_of (drop i xs)) ≡ arms_continue (arms_of xs) → b ≡ continues (view_statements a.statements.items) → (b || arms_continue (arms_of (drop (i + 1) xs))) ≡ arms_continue (arms_of xs)
arm_at xs i a b lt is h e = ap (λ c. c || arms_continue (arms_of (drop (i + 1) xs))) e ∙ sym (ap arms_continue (arms_at xs i a lt is)) ∙ h
