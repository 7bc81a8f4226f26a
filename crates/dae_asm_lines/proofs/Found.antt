-- What reading finds is what the tokens say.
use Rattle.std.proofs.Common.{◌≡◌, ℕ, ◌≤◌, nat_le, ℤ, Bool, true, false, ◌&&◌, if◌then◌else◌, List, ◌∷◌, map, length, codes, Option, Some, None, refl, sym, ap, ◌∙◌, subst, arith, []}
use Rattle.std.specs.Str.{bytes_eq}
use Rattle.std.proofs.lemmas.Slice.Eq.{bytes_eq-Decides}
use Rattle.dae_base.specs.declared.Side.{Side}
use Rattle.dae_base.specs.declared.Side.TheVariants.{A, E}
use Rattle.dae_asm_lines.specs.declared.Operands.{Operands}
use Rattle.dae_asm_lines.specs.declared.Operands.TheVariants.{Registers, Immediate, Based, Branch, Upper, Jump, Alone}
use Rattle.dae_asm_lines.specs.Targets.{JumpTarget}
use Rattle.dae_asm_lines.specs.Names.{name_of, operands_of, named, AreAlike}
use Rattle.dae_asm_lines.specs.Tokens.{LineToken, Word, Number, Sign, is_label}
use Rattle.dae_asm_lines.specs.Items as items
use Rattle.dae_asm_lines.specs.Items.{Says, SayOperands, IsRegister, comma}
use Rattle.dae_asm_lines.specs.Reading.{number, name, sign, register, target, first, end, all_numbers, two_registers_at, registers_at, immediate_at, based_at, branch_at, upper_at, jump_at, alone_at, operands_at, seven_at, one_at, private_at, entry_at, nothing_at, side_of, mark_at, if_few, bytes_at, name_at, instruction_at, behind_name, colon_at, label_or, item_of}
use Rattle.dae_asm_lines.proofs.Steps.{came, came_map, began, ended, number_is, name_is, sign_is, register_is, target_is}
use Rattle.dae_asm_lines.proofs.Listed.{named_is}

-- two registers, each with a comma
pub record Two (ts : List LineToken) (found : ℤ × ℤ × List LineToken) : Type 0 where
  pub x : LineToken
  pub y : LineToken
  pub whole : ts ≡ x ∷ comma ∷ y ∷ comma ∷ found.2
  pub a : IsRegister x found.0
  pub b : IsRegister y found.1

two_found : (ts : List LineToken) (i : ℤ × ℤ × List LineToken) → two_registers_at ts ≡ Some i → Two ts i
unfolding two_registers_at
two_found ts i e =
    let a = came (first register ts) _ i e in
    let ab = began register ts a.from a.was in
    let ak = register_is ab.token a.from.0 ab.is in
    let aw = ab.whole in
    let c = came (first (sign 44) a.from.1) _ i a.gave in
    let cb = began (sign 44) a.from.1 c.from c.was in
    let ck = sign_is 44 cb.token c.from.0 cb.is in
    let cw = cb.whole in
    let b = came (first register c.from.1) _ i c.gave in
    let bb = began register c.from.1 b.from b.was in
    let bk = register_is bb.token b.from.0 bb.is in
    let bw = bb.whole in
    let d = came (first (sign 44) b.from.1) _ i b.gave in
    let db = began (sign 44) b.from.1 d.from d.was in
    let dk = sign_is 44 db.token d.from.0 db.is in
    let dw = db.whole in
    let same : (a.from.0, b.from.0, d.from.1) ≡ i = cc in
    let whole : ts ≡ ab.token ∷ comma ∷ bb.token ∷ comma ∷ d.from.1 = cc in
    let P : ℤ × ℤ × List LineToken → Type 0 = λ f. Two ts f in
    subst P same (record { x = ab.token; y = bb.token; whole = whole; a = ak; b = bk })

registers_found : (ts : List LineToken) (i : Operands JumpTarget) → registers_at ts ≡ Some i → SayOperands ts i
unfolding registers_at
registers_found ts i e =
    let p = came (two_registers_at ts) _ i e in
    let pp = two_found ts p.from p.was in
    let c = came (first register p.from.2) _ i p.gave in
    let cb = began register p.from.2 c.from c.was in
    let ck = register_is cb.token c.from.0 cb.is in
    let cw = cb.whole in
    let u = came (end c.from.1) _ i c.gave in
    let over = ended c.from.1 u.from u.was in
    let same : Registers p.from.0 p.from.1 c.from.0 ≡ i = cc in
    let P : Operands JumpTarget → Type 0 = λ o. SayOperands ts o in
    subst P same (record { x = pp.x; y = pp.y; z = cb.token; whole = let w : ts ≡ pp.x ∷ comma ∷ pp.y ∷ comma ∷ cb.token ∷ [] = cc (pp.whole, cw, over) in w; one = pp.a; two = pp.b; three = ck })

immediate_found : (ts : List LineToken) (i : Operands JumpTarget) → immediate_at ts ≡ Some i → SayOperands ts i
unfolding immediate_at
immediate_found ts i e =
    let p = came (two_registers_at ts) _ i e in
    let pp = two_found ts p.from p.was in
    let c = came (first number p.from.2) _ i p.gave in
    let cb = began number p.from.2 c.from c.was in
    let ck = number_is cb.token c.from.0 cb.is in
    let cw = cb.whole in
    let u = came (end c.from.1) _ i c.gave in
    let over = ended c.from.1 u.from u.was in
    let same : Immediate p.from.0 p.from.1 c.from.0 ≡ i = cc in
    let P : Operands JumpTarget → Type 0 = λ o. SayOperands ts o in
    subst P same (record { x = pp.x; y = pp.y; whole = let w : ts ≡ pp.x ∷ comma ∷ pp.y ∷ comma ∷ Number c.from.0 ∷ [] = cc (pp.whole, cw, ck, over) in w; one = pp.a; two = pp.b })

based_found : (ts : List LineToken) (i : Operands JumpTarget) → based_at ts ≡ Some i → SayOperands ts i
unfolding based_at
based_found ts i e =
    let a = came (first register ts) _ i e in
    let ab = began register ts a.from a.was in
    let ak = register_is ab.token a.from.0 ab.is in
    let aw = ab.whole in
    let c = came (first (sign 44) a.from.1) _ i a.gave in
    let cb = began (sign 44) a.from.1 c.from c.was in
    let ck = sign_is 44 cb.token c.from.0 cb.is in
    let cw = cb.whole in
    let n = came (first number c.from.1) _ i c.gave in
    let nb = began number c.from.1 n.from n.was in
    let nk = number_is nb.token n.from.0 nb.is in
    let nw = nb.whole in
    let o = came (first (sign 40) n.from.1) _ i n.gave in
    let ob = began (sign 40) n.from.1 o.from o.was in
    let ok = sign_is 40 ob.token o.from.0 ob.is in
    let ow = ob.whole in
    let b = came (first register o.from.1) _ i o.gave in
    let bb = began register o.from.1 b.from b.was in
    let bk = register_is bb.token b.from.0 bb.is in
    let bw = bb.whole in
    let p = came (first (sign 41) b.from.1) _ i b.gave in
    let pb = began (sign 41) b.from.1 p.from p.was in
    let pk = sign_is 41 pb.token p.from.0 pb.is in
    let pw = pb.whole in
    let u = came (end p.from.1) _ i p.gave in
    let over = ended p.from.1 u.from u.was in
    let same : Based a.from.0 n.from.0 b.from.0 ≡ i = cc in
    let P : Operands JumpTarget → Type 0 = λ o. SayOperands ts o in
    subst P same (record { x = ab.token; y = bb.token; whole = let w : ts ≡ ab.token ∷ comma ∷ Number n.from.0 ∷ Sign 40 ∷ bb.token ∷ Sign 41 ∷ [] = cc in w; one = ak; two = bk })

branch_found : (ts : List LineToken) (i : Operands JumpTarget) → branch_at ts ≡ Some i → SayOperands ts i
unfolding branch_at
branch_found ts i e =
    let p = came (two_registers_at ts) _ i e in
    let pp = two_found ts p.from p.was in
    let c = came (first target p.from.2) _ i p.gave in
    let cb = began target p.from.2 c.from c.was in
    let ck = target_is cb.token c.from.0 cb.is in
    let cw = cb.whole in
    let u = came (end c.from.1) _ i c.gave in
    let over = ended c.from.1 u.from u.was in
    let same : Branch p.from.0 p.from.1 c.from.0 ≡ i = cc in
    let P : Operands JumpTarget → Type 0 = λ o. SayOperands ts o in
    subst P same (record { x = pp.x; y = pp.y; z = cb.token; whole = let w : ts ≡ pp.x ∷ comma ∷ pp.y ∷ comma ∷ cb.token ∷ [] = cc (pp.whole, cw, over) in w; one = pp.a; two = pp.b; goes = ck })

upper_found : (ts : List LineToken) (i : Operands JumpTarget) → upper_at ts ≡ Some i → SayOperands ts i
unfolding upper_at
upper_found ts i e =
    let a = came (first register ts) _ i e in
    let ab = began register ts a.from a.was in
    let ak = register_is ab.token a.from.0 ab.is in
    let aw = ab.whole in
    let c = came (first (sign 44) a.from.1) _ i a.gave in
    let cb = began (sign 44) a.from.1 c.from c.was in
    let ck = sign_is 44 cb.token c.from.0 cb.is in
    let cw = cb.whole in
    let n = came (first number c.from.1) _ i c.gave in
    let nb = began number c.from.1 n.from n.was in
    let nk = number_is nb.token n.from.0 nb.is in
    let nw = nb.whole in
    let u = came (end n.from.1) _ i n.gave in
    let over = ended n.from.1 u.from u.was in
    let same : Upper a.from.0 n.from.0 ≡ i = cc in
    let P : Operands JumpTarget → Type 0 = λ o. SayOperands ts o in
    subst P same (record { x = ab.token; whole = let w : ts ≡ ab.token ∷ comma ∷ Number n.from.0 ∷ [] = cc in w; one = ak })

jump_found : (ts : List LineToken) (i : Operands JumpTarget) → jump_at ts ≡ Some i → SayOperands ts i
unfolding jump_at
jump_found ts i e =
    let a = came (first register ts) _ i e in
    let ab = began register ts a.from a.was in
    let ak = register_is ab.token a.from.0 ab.is in
    let aw = ab.whole in
    let c = came (first (sign 44) a.from.1) _ i a.gave in
    let cb = began (sign 44) a.from.1 c.from c.was in
    let ck = sign_is 44 cb.token c.from.0 cb.is in
    let cw = cb.whole in
    let t = came (first target c.from.1) _ i c.gave in
    let tb = began target c.from.1 t.from t.was in
    let tk = target_is tb.token t.from.0 tb.is in
    let tw = tb.whole in
    let u = came (end t.from.1) _ i t.gave in
    let over = ended t.from.1 u.from u.was in
    let same : Jump a.from.0 t.from.0 ≡ i = cc in
    let P : Operands JumpTarget → Type 0 = λ o. SayOperands ts o in
    subst P same (record { x = ab.token; z = tb.token; whole = let w : ts ≡ ab.token ∷ comma ∷ tb.token ∷ [] = cc in w; one = ak; goes = tk })

alone_found : (ts : List LineToken) (i : Operands JumpTarget) → alone_at ts ≡ Some i → SayOperands ts i
unfolding alone_at
alone_found ts i e =
    let u = came (end ts) _ i e in
    let over = ended ts u.from u.was in
    let same : Alone ≡ i = cc in
    let P : Operands JumpTarget → Type 0 = λ o. SayOperands ts o in
    subst P same (over)

pub operands_found : (form : Operands ℤ) (ts : List LineToken) (o : Operands JumpTarget) → operands_at form ts ≡ Some o → SayOperands ts o
unfolding operands_at
operands_found (Registers a b c) ts o e = registers_found ts o e
operands_found (Immediate a b n) ts o e = immediate_found ts o e
operands_found (Based a n b) ts o e = based_found ts o e
operands_found (Branch a b t) ts o e = branch_found ts o e
operands_found (Upper a n) ts o e = upper_found ts o e
operands_found (Jump a t) ts o e = jump_found ts o e
operands_found Alone ts o e = alone_found ts o e

registers_alike : (ts : List LineToken) (i : Operands JumpTarget) → registers_at ts ≡ Some i → (a0 : ℤ) (b0 : ℤ) (c0 : ℤ) → AreAlike {S = ℤ} (Registers a0 b0 c0) i
unfolding registers_at
registers_alike ts i e a0 b0 c0 =
    let p = came (two_registers_at ts) _ i e in
    let c = came (first register p.from.2) _ i p.gave in
    let u = came (end c.from.1) _ i c.gave in
    let same : Registers p.from.0 p.from.1 c.from.0 ≡ i = cc in
    let P : Operands JumpTarget → Type 0 = λ o. AreAlike {S = ℤ} (Registers a0 b0 c0) o in
    subst P same tt

immediate_alike : (ts : List LineToken) (i : Operands JumpTarget) → immediate_at ts ≡ Some i → (a0 : ℤ) (b0 : ℤ) (n0 : ℤ) → AreAlike {S = ℤ} (Immediate a0 b0 n0) i
unfolding immediate_at
immediate_alike ts i e a0 b0 n0 =
    let p = came (two_registers_at ts) _ i e in
    let c = came (first number p.from.2) _ i p.gave in
    let u = came (end c.from.1) _ i c.gave in
    let same : Immediate p.from.0 p.from.1 c.from.0 ≡ i = cc in
    let P : Operands JumpTarget → Type 0 = λ o. AreAlike {S = ℤ} (Immediate a0 b0 n0) o in
    subst P same tt

based_alike : (ts : List LineToken) (i : Operands JumpTarget) → based_at ts ≡ Some i → (a0 : ℤ) (n0 : ℤ) (b0 : ℤ) → AreAlike {S = ℤ} (Based a0 n0 b0) i
unfolding based_at
based_alike ts i e a0 n0 b0 =
    let a = came (first register ts) _ i e in
    let c = came (first (sign 44) a.from.1) _ i a.gave in
    let n = came (first number c.from.1) _ i c.gave in
    let o = came (first (sign 40) n.from.1) _ i n.gave in
    let b = came (first register o.from.1) _ i o.gave in
    let p = came (first (sign 41) b.from.1) _ i b.gave in
    let u = came (end p.from.1) _ i p.gave in
    let same : Based a.from.0 n.from.0 b.from.0 ≡ i = cc in
    let P : Operands JumpTarget → Type 0 = λ o. AreAlike {S = ℤ} (Based a0 n0 b0) o in
    subst P same tt

branch_alike : (ts : List LineToken) (i : Operands JumpTarget) → branch_at ts ≡ Some i → (a0 : ℤ) (b0 : ℤ) (t0 : ℤ) → AreAlike {S = ℤ} (Branch a0 b0 t0) i
unfolding branch_at
branch_alike ts i e a0 b0 t0 =
    let p = came (two_registers_at ts) _ i e in
    let c = came (first target p.from.2) _ i p.gave in
    let u = came (end c.from.1) _ i c.gave in
    let same : Branch p.from.0 p.from.1 c.from.0 ≡ i = cc in
    let P : Operands JumpTarget → Type 0 = λ o. AreAlike {S = ℤ} (Branch a0 b0 t0) o in
    subst P same tt

upper_alike : (ts : List LineToken) (i : Operands JumpTarget) → upper_at ts ≡ Some i → (a0 : ℤ) (n0 : ℤ) → AreAlike {S = ℤ} (Upper a0 n0) i
unfolding upper_at
upper_alike ts i e a0 n0 =
    let a = came (first register ts) _ i e in
    let c = came (first (sign 44) a.from.1) _ i a.gave in
    let n = came (first number c.from.1) _ i c.gave in
    let u = came (end n.from.1) _ i n.gave in
    let same : Upper a.from.0 n.from.0 ≡ i = cc in
    let P : Operands JumpTarget → Type 0 = λ o. AreAlike {S = ℤ} (Upper a0 n0) o in
    subst P same tt

jump_alike : (ts : List LineToken) (i : Operands JumpTarget) → jump_at ts ≡ Some i → (a0 : ℤ) (t0 : ℤ) → AreAlike {S = ℤ} (Jump a0 t0) i
unfolding jump_at
jump_alike ts i e a0 t0 =
    let a = came (first register ts) _ i e in
    let c = came (first (sign 44) a.from.1) _ i a.gave in
    let t = came (first target c.from.1) _ i c.gave in
    let u = came (end t.from.1) _ i t.gave in
    let same : Jump a.from.0 t.from.0 ≡ i = cc in
    let P : Operands JumpTarget → Type 0 = λ o. AreAlike {S = ℤ} (Jump a0 t0) o in
    subst P same tt

alone_alike : (ts : List LineToken) (i : Operands JumpTarget) → alone_at ts ≡ Some i → AreAlike {S = ℤ} Alone i
unfolding alone_at
alone_alike ts i e =
    let u = came (end ts) _ i e in
    let same : Alone ≡ i = cc in
    let P : Operands JumpTarget → Type 0 = λ o. AreAlike {S = ℤ} Alone o in
    subst P same tt

pub operands_alike : (form : Operands ℤ) (ts : List LineToken) (o : Operands JumpTarget) → operands_at form ts ≡ Some o → AreAlike form o
unfolding operands_at
operands_alike (Registers a b c) ts o e = registers_alike ts o e a b c
operands_alike (Immediate a b n) ts o e = immediate_alike ts o e a b n
operands_alike (Based a n b) ts o e = based_alike ts o e a n b
operands_alike (Branch a b t) ts o e = branch_alike ts o e a b t
operands_alike (Upper a n) ts o e = upper_alike ts o e a n
operands_alike (Jump a t) ts o e = jump_alike ts o e a t
operands_alike Alone ts o e = alone_alike ts o e

-- ---- items behind their names

abbrev Behind : List ℕ → List LineToken → items.LineItem → Type 0
Behind w ts i = Says (Word w ∷ ts) i

-- a number first
number_first : (ts : List LineToken) (f : ℤ × List LineToken) → first number ts ≡ Some f → ts ≡ Number f.0 ∷ f.1
number_first ts f e = let b = began number ts f e in let k = number_is b.token f.0 b.is in let w = b.whole in cc

given : {X : Type 0} (x y : X) → Some x ≡ Some y → x ≡ y
given x y e = cc

seven_found : (ts : List LineToken) (i : items.LineItem) → seven_at ts ≡ Some i → Behind (codes ".budget") ts i
unfolding seven_at
seven_found ts i e =
    let a = came (first number ts) _ i e in
    let b = came (first number a.from.1) _ i a.gave in
    let c = came (first number b.from.1) _ i b.gave in
    let d = came (first number c.from.1) _ i c.gave in
    let f = came (first number d.from.1) _ i d.gave in
    let g = came (first number f.from.1) _ i f.gave in
    let h = came (first number g.from.1) _ i g.gave in
    let u = came (end h.from.1) _ i h.gave in
    let same = given (items.Budget (a.from.0 ∷ b.from.0 ∷ c.from.0 ∷ d.from.0 ∷ f.from.0 ∷ g.from.0 ∷ h.from.0 ∷ [])) i u.gave in
    let P : items.LineItem → Type 0 = λ j. Behind (codes ".budget") ts j in
    let whole = number_first ts a.from a.was ∙ ap (λ (r : List LineToken). Number a.from.0 ∷ r) (number_first a.from.1 b.from b.was ∙ ap (λ (r : List LineToken). Number b.from.0 ∷ r) (number_first b.from.1 c.from c.was ∙ ap (λ (r : List LineToken). Number c.from.0 ∷ r) (number_first c.from.1 d.from d.was ∙ ap (λ (r : List LineToken). Number d.from.0 ∷ r) (number_first d.from.1 f.from f.was ∙ ap (λ (r : List LineToken). Number f.from.0 ∷ r) (number_first f.from.1 g.from g.was ∙ ap (λ (r : List LineToken). Number g.from.0 ∷ r) (number_first g.from.1 h.from h.was ∙ ap (λ (r : List LineToken). Number h.from.0 ∷ r) (ended h.from.1 u.from u.was))))))) in
    subst P same (ap (λ (r : List LineToken). Word (codes ".budget") ∷ r) whole, refl)

memory_found : (ts : List LineToken) (i : items.LineItem) → one_at (λ n. items.Memory n) ts ≡ Some i → Behind (codes ".memory") ts i
unfolding one_at
memory_found ts i e =
    let n = came (first number ts) _ i e in
    let nb = began number ts n.from n.was in
    let nk = number_is nb.token n.from.0 nb.is in
    let nw = nb.whole in
    let u = came (end n.from.1) _ i n.gave in
    let over = ended n.from.1 u.from u.was in
    let same : items.Memory n.from.0 ≡ i = cc in
    let P : items.LineItem → Type 0 = λ j. Behind (codes ".memory") ts j in
    subst P same (let w : ts ≡ Number n.from.0 ∷ [] = cc in ap (λ (r : List LineToken). Word (codes ".memory") ∷ r) w)

calls_found : (ts : List LineToken) (i : items.LineItem) → one_at (λ n. items.Calls n) ts ≡ Some i → Behind (codes ".calls") ts i
unfolding one_at
calls_found ts i e =
    let n = came (first number ts) _ i e in
    let nb = began number ts n.from n.was in
    let nk = number_is nb.token n.from.0 nb.is in
    let nw = nb.whole in
    let u = came (end n.from.1) _ i n.gave in
    let over = ended n.from.1 u.from u.was in
    let same : items.Calls n.from.0 ≡ i = cc in
    let P : items.LineItem → Type 0 = λ j. Behind (codes ".calls") ts j in
    subst P same (let w : ts ≡ Number n.from.0 ∷ [] = cc in ap (λ (r : List LineToken). Word (codes ".calls") ∷ r) w)

plain_found : (ts : List LineToken) (i : items.LineItem) → one_at (λ n. items.Plain n) ts ≡ Some i → Behind (codes ".word") ts i
unfolding one_at
plain_found ts i e =
    let n = came (first number ts) _ i e in
    let nb = began number ts n.from n.was in
    let nk = number_is nb.token n.from.0 nb.is in
    let nw = nb.whole in
    let u = came (end n.from.1) _ i n.gave in
    let over = ended n.from.1 u.from u.was in
    let same : items.Plain n.from.0 ≡ i = cc in
    let P : items.LineItem → Type 0 = λ j. Behind (codes ".word") ts j in
    subst P same (let w : ts ≡ Number n.from.0 ∷ [] = cc in ap (λ (r : List LineToken). Word (codes ".word") ∷ r) w)

private_found : (ts : List LineToken) (i : items.LineItem) → private_at ts ≡ Some i → Behind (codes ".private") ts i
unfolding private_at
private_found ts i e =
    let a = came (first number ts) _ i e in
    let ab = began number ts a.from a.was in
    let ak = number_is ab.token a.from.0 ab.is in
    let aw = ab.whole in
    let b = came (first number a.from.1) _ i a.gave in
    let bb = began number a.from.1 b.from b.was in
    let bk = number_is bb.token b.from.0 bb.is in
    let bw = bb.whole in
    let u = came (end b.from.1) _ i b.gave in
    let over = ended b.from.1 u.from u.was in
    let same : items.Private a.from.0 b.from.0 ≡ i = cc in
    let P : items.LineItem → Type 0 = λ j. Behind (codes ".private") ts j in
    subst P same (let w : ts ≡ Number a.from.0 ∷ Number b.from.0 ∷ [] = cc in ap (λ (r : List LineToken). Word (codes ".private") ∷ r) w)

entry_found : (ts : List LineToken) (i : items.LineItem) → entry_at ts ≡ Some i → Behind (codes ".entry") ts i
unfolding entry_at
entry_found ts i e =
    let a = came (first target ts) _ i e in
    let ab = began target ts a.from a.was in
    let ak = target_is ab.token a.from.0 ab.is in
    let aw = ab.whole in
    let b = came (first target a.from.1) _ i a.gave in
    let bb = began target a.from.1 b.from b.was in
    let bk = target_is bb.token b.from.0 bb.is in
    let bw = bb.whole in
    let u = came (end b.from.1) _ i b.gave in
    let over = ended b.from.1 u.from u.was in
    let same : items.Entry a.from.0 b.from.0 ≡ i = cc in
    let P : items.LineItem → Type 0 = λ j. Behind (codes ".entry") ts j in
    subst P same (record { x = ab.token; y = bb.token; whole = (let w : ts ≡ ab.token ∷ bb.token ∷ [] = cc in ap (λ (r : List LineToken). Word (codes ".entry") ∷ r) w); one = ak; two = bk })

a_found : (ts : List LineToken) (i : items.LineItem) → nothing_at (items.Code A) ts ≡ Some i → Behind (codes ".a") ts i
unfolding nothing_at
a_found ts i e =
    let u = came (end ts) _ i e in
    let over = ended ts u.from u.was in
    let same : items.Code A ≡ i = cc in
    let P : items.LineItem → Type 0 = λ j. Behind (codes ".a") ts j in
    subst P same (let w : ts ≡ [] = cc in ap (λ (r : List LineToken). Word (codes ".a") ∷ r) w)

e_found : (ts : List LineToken) (i : items.LineItem) → nothing_at (items.Code E) ts ≡ Some i → Behind (codes ".e") ts i
unfolding nothing_at
e_found ts i e =
    let u = came (end ts) _ i e in
    let over = ended ts u.from u.was in
    let same : items.Code E ≡ i = cc in
    let P : items.LineItem → Type 0 = λ j. Behind (codes ".e") ts j in
    subst P same (let w : ts ≡ [] = cc in ap (λ (r : List LineToken). Word (codes ".e") ∷ r) w)

data_found : (ts : List LineToken) (i : items.LineItem) → nothing_at items.Data ts ≡ Some i → Behind (codes ".data") ts i
unfolding nothing_at
data_found ts i e =
    let u = came (end ts) _ i e in
    let over = ended ts u.from u.was in
    let same : items.Data ≡ i = cc in
    let P : items.LineItem → Type 0 = λ j. Behind (codes ".data") ts j in
    subst P same (let w : ts ≡ [] = cc in ap (λ (r : List LineToken). Word (codes ".data") ∷ r) w)

test_says : (x y : List ℕ) → bytes_eq x y ≡ true → x ≡ y
test_says x y e = (bytes_eq-Decides x y).0 e

side_is : (w : List ℕ) (side : Side) → side_of w ≡ Some side → w ≡ items.letter side
side_is w side e = by_test (bytes_eq w (codes "a")) refl (bytes_eq w (codes "e")) refl side e
  where
    by_test : (x : Bool) → bytes_eq w (codes "a") ≡ x → (y : Bool) → bytes_eq w (codes "e") ≡ y → (s : Side) → (if x then Some A else (if y then Some E else None)) ≡ Some s → w ≡ items.letter s
    by_test true h y k s e = let same : A ≡ s = cc in let P : Side → Type 0 = λ z. w ≡ items.letter z in subst P same (test_says w (codes "a") h)
    by_test false h true k s e = let same : E ≡ s = cc in let P : Side → Type 0 = λ z. w ≡ items.letter z in subst P same (test_says w (codes "e") k)
    by_test false h false k s e = absurd cc

mark_found : (ts : List LineToken) (i : items.LineItem) → mark_at ts ≡ Some i → Behind (codes ".line") ts i
unfolding mark_at
mark_found ts i e =
    let s = came (first name ts) _ i e in
    let sb = began name ts s.from s.was in
    let sk = name_is sb.token s.from.0 sb.is in
    let sw = sb.whole in
    let x = came (side_of s.from.0) _ i s.gave in
    let xk = side_is s.from.0 x.from x.was in
    let w = came (first number s.from.1) _ i x.gave in
    let wb = began number s.from.1 w.from w.was in
    let wk = number_is wb.token w.from.0 wb.is in
    let ww = wb.whole in
    let f = came (first number w.from.1) _ i w.gave in
    let fb = began number w.from.1 f.from f.was in
    let fk = number_is fb.token f.from.0 fb.is in
    let fw = fb.whole in
    let l = came (first number f.from.1) _ i f.gave in
    let lb = began number f.from.1 l.from l.was in
    let lk = number_is lb.token l.from.0 lb.is in
    let lw = lb.whole in
    let u = came (end l.from.1) _ i l.gave in
    let over = ended l.from.1 u.from u.was in
    let same : items.Mark x.from w.from.0 f.from.0 l.from.0 ≡ i = cc in
    let P : items.LineItem → Type 0 = λ j. Behind (codes ".line") ts j in
    subst P same (let whole : ts ≡ Word (items.letter x.from) ∷ Number w.from.0 ∷ Number f.from.0 ∷ Number l.from.0 ∷ [] = cc in ap (λ (r : List LineToken). Word (codes ".line") ∷ r) whole)

numbers_are : (ts : List LineToken) (zs : List ℤ) → all_numbers ts ≡ Some zs → ts ≡ map Number zs
numbers_are [] zs e = let same : [] ≡ zs = cc in rw (sym same) refl
numbers_are (t ∷ ts) zs e =
    let a = came (number t) _ zs e in
    let b = came_map (all_numbers ts) (λ (ys : List ℤ). a.from ∷ ys) zs a.gave in
    let rest = numbers_are ts b.0 b.1.0 in
    let head = number_is t a.from a.was in
    let P : List ℤ → Type 0 = λ ys. t ∷ ts ≡ map Number ys in
    subst P b.1.1 (let both : t ∷ ts ≡ Number a.from ∷ map Number b.0 = cc in both)

few : (zs : List ℤ) (i : items.LineItem) (t : Bool) → (nat_le 1 (length zs) && nat_le (length zs) 16) ≡ t → (if t then Some (items.Bytes zs) else None) ≡ Some i → (items.Bytes zs ≡ i) × ((1 ≤ length zs) × (length zs ≤ 16))
few zs i true e h = (cc, grind arith)
few zs i false e h = absurd cc

bytes_found : (ts : List LineToken) (i : items.LineItem) → bytes_at ts ≡ Some i → Behind (codes ".byte") ts i
unfolding bytes_at
bytes_found ts i e =
    let a = came (all_numbers ts) if_few i e in
    let f = few a.from i (nat_le 1 (length a.from) && nat_le (length a.from) 16) refl a.gave in
    let P : items.LineItem → Type 0 = λ j. Behind (codes ".byte") ts j in
    subst P f.0 (ap (λ (r : List LineToken). Word (codes ".byte") ∷ r) (numbers_are ts a.from a.was), f.1.0, f.1.1)

name_found : (ts : List LineToken) (i : items.LineItem) → name_at ts ≡ Some i → Behind (codes ".name") ts i
unfolding name_at
name_found ts i e =
    let a = came_map (all_numbers ts) (λ (zs : List ℤ). items.Name zs) i e in
    let P : items.LineItem → Type 0 = λ j. Behind (codes ".name") ts j in
    subst P a.1.1 (ap (λ (r : List LineToken). Word (codes ".name") ∷ r) (numbers_are ts a.0 a.1.0))

instruction_found : (w : List ℕ) (ts : List LineToken) (i : items.LineItem) → instruction_at w ts ≡ Some i → Behind w ts i
unfolding instruction_at
instruction_found w ts i e =
    let a = came (named w) _ i e in
    let o = came (operands_at (operands_of a.from) ts) _ i a.gave in
    let same : items.Instruction a.from o.from ≡ i = cc in
    let spelled = named_is w a.from a.was in
    let again : named (name_of a.from) ≡ Some a.from = rw (sym spelled) a.was in
    let P : items.LineItem → Type 0 = λ j. Behind w ts j in
    subst P same (record { rest = ts; whole = ap (λ (v : List ℕ). Word v ∷ ts) spelled; known = again; alike = operands_alike (operands_of a.from) ts o.from o.was; say = operands_found (operands_of a.from) ts o.from o.was })

-- one name after the other
or_else : (w v : List ℕ) (ts : List LineToken) (i : items.LineItem) (x y : Option items.LineItem) → (x ≡ Some i → Behind v ts i) → (y ≡ Some i → Behind w ts i) → (if bytes_eq w v then x else y) ≡ Some i → Behind w ts i
or_else w v ts i x y here there e = by_test (bytes_eq w v) refl e
  where
    by_test : (t : Bool) → bytes_eq w v ≡ t → (if t then x else y) ≡ Some i → Behind w ts i
    by_test true h e = let P : List ℕ → Type 0 = λ u. Behind u ts i in subst P (sym (test_says w v h)) (here e)
    by_test false h e = there e

behind_found : (w : List ℕ) (ts : List LineToken) (i : items.LineItem) → behind_name w ts ≡ Some i → Behind w ts i
unfolding behind_name
behind_found w ts i e =
    or_else w (codes ".budget") ts i _ _ (seven_found ts i)
    (or_else w (codes ".memory") ts i _ _ (memory_found ts i)
    (or_else w (codes ".calls") ts i _ _ (calls_found ts i)
    (or_else w (codes ".private") ts i _ _ (private_found ts i)
    (or_else w (codes ".entry") ts i _ _ (entry_found ts i)
    (or_else w (codes ".a") ts i _ _ (a_found ts i)
    (or_else w (codes ".e") ts i _ _ (e_found ts i)
    (or_else w (codes ".data") ts i _ _ (data_found ts i)
    (or_else w (codes ".word") ts i _ _ (plain_found ts i)
    (or_else w (codes ".byte") ts i _ _ (bytes_found ts i)
    (or_else w (codes ".line") ts i _ _ (mark_found ts i)
    (or_else w (codes ".name") ts i _ _ (name_found ts i) (instruction_found w ts i)))))))))))) e

colon_found : (ts : List LineToken) (u : Unit {0}) → colon_at ts ≡ Some u → ts ≡ Sign 58 ∷ []
unfolding colon_at
colon_found ts u e =
    let a = came (first (sign 58) ts) _ u e in
    let b = began (sign 58) ts a.from a.was in
    let k = sign_is 58 b.token a.from.0 b.is in
    let w = b.whole in
    let over = ended a.from.1 u a.gave in
    cc

pub found : (ts : List LineToken) (i : items.LineItem) → item_of ts ≡ Some i → Says ts i
unfolding item_of
found ts i e =
    let a = came (first name ts) _ i e in
    let b = began name ts a.from a.was in
    let k = name_is b.token a.from.0 b.is in
    let w = b.whole in
    let whole : ts ≡ Word a.from.0 ∷ a.from.1 = cc in
    let P : List LineToken → Type 0 = λ us. Says us i in
    subst P (sym whole) (by_colon a.from.0 a.from.1 (colon_at a.from.1) refl (is_label a.from.0) refl a.gave)
  where
    by_colon : (w : List ℕ) (rest : List LineToken) (c : Option (Unit {0})) → colon_at rest ≡ c → (t : Bool) → is_label w ≡ t → label_or c w (behind_name w rest) ≡ Some i → Says (Word w ∷ rest) i
    by_colon w rest None h t l e = behind_found w rest i e
    by_colon w rest (Some u) h true l e =
        let one = rw l at e in
        let same : items.Label w ≡ i = cc in
        let P : items.LineItem → Type 0 = λ j. Says (Word w ∷ rest) j in
        subst P same (ap (λ (r : List LineToken). Word w ∷ r) (colon_found rest u h), l)
    by_colon w rest (Some u) h false l e = behind_found w rest i (rw l at e)
