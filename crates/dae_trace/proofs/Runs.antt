-- Traces of one state: what the lines of two runs tell of each other.
use Rattle.std.proofs.Common.{◌≡◌, ◌≢◌, ◌⊎◌, inl, inr, ℕ, ◌+◌, ◌<◌, ◌^◌, true, List, [], ◌∷◌, ◌++◌, length, refl, ap, sym, ◌∙◌, subst, append_assoc, append-nil, length-append, arith}
use Rattle.std.specs.Prelude.{Option, Some, is_some}
use Rattle.std.specs.List.{concat}
use Rattle.std.proofs.lemmas.Option.{same_Some}
use Rattle.dae_base.specs.declared.Depths.{Depths}
use Rattle.dae_base.proofs.Laws.{and_then_some}
use Rattle.dae_image.specs.declared.Image.{Image}
use Rattle.dae_machine.specs.declared.Pick.{Pick}
use Rattle.dae_machine.specs.Machine.{Setup, State, Runs, step}
use Rattle.dae_machine.specs.Opened.{opened, setup_of}
use Rattle.dae_machine.specs.Runs.{run_by}
use Rattle.dae_trace.specs.Lines.{Names, line}
use Rattle.dae_trace.specs.Traces.{FailsAt, IsFirstLine, IsTrace, Numbered, lines, lines_on}
use Rattle.dae_trace.proofs.Texts.{IsWhole, NoFeed, no_whole_in, whole_same}
use Rattle.dae_trace.proofs.Naming.{names_one, names_whole}
use Rattle.dae_trace.proofs.Numbers.{line_is_named, numbered_first, numbered_step, step_counts}

-- the lines behind a step
pub lines_behind : (setup : Setup) (s t : State) (p : Pick) (ps : List Pick) → step setup s p ≡ Some t
    → concat (lines setup s (p ∷ ps)) ≡ line s p ++ concat (lines setup t ps)
lines_behind setup s t p ps h =
    ap (λ (o : Option State). line s p ++ concat (lines_on o (λ (v : State). lines setup v ps))) h

-- the lines of a run, and of what comes then
pub lines_after : (setup : Setup) (s t : State) (ps qs : List Pick) → Runs setup s ps t → lines setup s (ps ++ qs) ≡ lines setup s ps ++ lines setup t qs
lines_after setup s t [] qs run = ap (λ (v : State). lines setup v qs) (same_Some s t run)
lines_after setup s t (p ∷ ps) qs run =
    let x = and_then_some (λ (v : State). run_by (step setup) v ps) (step setup s p) t run in
    ap (λ (o : Option State). line s p ∷ lines_on o (λ (v : State). lines setup v (ps ++ qs))) x.1
    ∙ ap (λ (ls : List (List ℕ)). line s p ∷ ls) (lines_after setup x.0 t ps qs x.2)
    ∙ ap (λ (o : Option State). (line s p ∷ lines_on o (λ (v : State). lines setup v ps)) ++ lines setup t qs) (sym x.1)

concat_more : (xs : List (List ℕ)) (x : List ℕ) → concat (xs ++ x ∷ []) ≡ concat xs ++ x
concat_more [] x = append-nil x
concat_more (y ∷ xs) x = ap (λ (l : List ℕ). y ++ l) (concat_more xs x) ∙ sym (append_assoc y (concat xs) x)

-- the lines of one step more
pub lines_more : (setup : Setup) (s t u : State) (ps : List Pick) (p : Pick) → Runs setup s ps t → step setup t p ≡ Some u
    → concat (lines setup s (ps ++ p ∷ [])) ≡ concat (lines setup s ps) ++ line t p
lines_more setup s t u ps p run h =
    let one : lines setup t (p ∷ []) ≡ line t p ∷ [] = ap (λ (o : Option State). line t p ∷ lines_on o (λ (v : State). [])) h in
    ap concat (lines_after setup s t ps (p ∷ []) run ∙ ap (λ (ls : List (List ℕ)). lines setup s ps ++ ls) one)
    ∙ concat_more (lines setup s ps) (line t p)

-- a line of a run ends with its only line feed
line_whole : (setup : Setup) (s t : State) (p : Pick) → Numbered s → s.steps < 2 ^ 40 → step setup s p ≡ Some t → IsWhole (line s p)
line_whole setup s t p n few h = names_whole (line s p) p (line_is_named setup s t p n few h)

-- a line has a byte at least
line_long : (text : List ℕ) → IsWhole text → 0 < length text
line_long text whole =
    let e = ap length whole.is in
    let l = length-append whole.front (10 ∷ []) in
    omega arith

-- two steps from one state whose lines stand at the head of the same bytes are one
module _ (setup : Setup) (s u w : State) (p q : Pick) (numbered : Numbered s) (few : s.steps < 2 ^ 40)
    (to_u : step setup s p ≡ Some u) (to_w : step setup s q ≡ Some w) (xs ys : List ℕ) (e : line s p ++ xs ≡ line s q ++ ys) where
  both : (line s p ≡ line s q) × (xs ≡ ys)
  both = whole_same (line s p) (line s q) xs ys (line_whole setup s u p numbered few to_u) (line_whole setup s w q numbered few to_w) e

  pub same_pick : p ≡ q
  same_pick =
      names_one (line s p) p q (line_is_named setup s u p numbered few to_u)
      (subst (λ (text : List ℕ). Names text q) (sym both.0) (line_is_named setup s w q numbered few to_w))

  pub same_state : u ≡ w
  same_state = same_Some u w (sym to_u ∙ ap (step setup s) same_pick ∙ to_w)

  pub same_rest : xs ≡ ys
  same_rest = both.1

-- bytes are the lines of these picks, and so few that each slot's number along the run has its text
record Along (setup : Setup) (s : State) (ps : List Pick) (t : State) (bytes : List ℕ) : Type 0 where
  numbered : Numbered s
  few : s.steps + length bytes < 2 ^ 40
  runs : Runs setup s ps t
  bytes_are : bytes ≡ concat (lines setup s ps)

-- what stands behind the first step
record Behind (setup : Setup) (s : State) (p : Pick) (ps : List Pick) (t : State) (bytes : List ℕ) : Type 0 where
  next : State
  later : List ℕ
  to : step setup s p ≡ Some next
  small : s.steps < 2 ^ 40
  whole : IsWhole (line s p)
  is : bytes ≡ line s p ++ later
  along : Along setup next ps t later

behind_first : (setup : Setup) (s t : State) (p : Pick) (ps : List Pick) (bytes : List ℕ) → Along setup s (p ∷ ps) t bytes → Behind setup s p ps t bytes
behind_first setup s t p ps bytes a =
    let x = and_then_some (λ (v : State). run_by (step setup) v ps) (step setup s p) t a.runs in
    let later = concat (lines setup x.0 ps) in
    let is : bytes ≡ line s p ++ later = a.bytes_are ∙ lines_behind setup s x.0 p ps x.1 in
    let small : s.steps < 2 ^ 40 = omega (arith, a.few) in
    let whole = line_whole setup s x.0 p a.numbered small x.1 in
    let long = line_long (line s p) whole in
    let l = length-append (line s p) later in
    let k = ap length is in
    let c = step_counts setup s x.0 p x.1 in
    record {
      next = x.0;
      later = later;
      to = x.1;
      small = small;
      whole = whole;
      is = is;
      along = record {
        numbered = numbered_step setup s x.0 p a.numbered x.1;
        few = omega (arith, a.few);
        runs = x.2;
        bytes_are = refl;
      };
    }

-- the same bytes are the lines of one run
one_run : (setup : Setup) (s t u : State) (ps qs : List Pick) (bytes : List ℕ) → Along setup s ps t bytes → Along setup s qs u bytes → (ps ≡ qs) × (t ≡ u)
one_run setup s t u [] [] bytes a b = (refl, sym (same_Some s t a.runs) ∙ same_Some s u b.runs)
one_run setup s t u [] (q ∷ qs) bytes a b =
    let y = behind_first setup s u q qs bytes b in
    absurd (no_whole_in [] (line s q) y.later tt y.whole (sym a.bytes_are ∙ y.is))
one_run setup s t u (p ∷ ps) [] bytes a b =
    let x = behind_first setup s t p ps bytes a in
    absurd (no_whole_in [] (line s p) x.later tt x.whole (sym b.bytes_are ∙ x.is))
one_run setup s t u (p ∷ ps) (q ∷ qs) bytes a b =
    let x = behind_first setup s t p ps bytes a in
    let y = behind_first setup s u q qs bytes b in
    let e : line s p ++ x.later ≡ line s q ++ y.later = sym x.is ∙ y.is in
    let pick = same_pick setup s x.next y.next p q a.numbered x.small x.to y.to x.later y.later e in
    let state = same_state setup s x.next y.next p q a.numbered x.small x.to y.to x.later y.later e in
    let later = same_rest setup s x.next y.next p q a.numbered x.small x.to y.to x.later y.later e in
    let moved : Along setup x.next qs u y.later = subst (λ (v : State). Along setup v qs u y.later) (sym state) y.along in
    let there : Along setup x.next qs u x.later = subst (λ (l : List ℕ). Along setup x.next qs u l) (sym later) moved in
    let rest = one_run setup x.next t u ps qs x.later x.along there in
    (ap (λ (r : Pick). r ∷ ps) pick ∙ ap (λ (rs : List Pick). q ∷ rs) rest.0, rest.1)

-- a fault behind the lines of some picks
record Fault (setup : Setup) (s : State) (ps : List Pick) (v : State) (rest text behind bytes : List ℕ) : Type 0 where
  runs : Runs setup s ps v
  bytes_are : bytes ≡ concat (lines setup s ps) ++ rest
  first : IsFirstLine rest text behind
  none : (p : Pick) → is_some (step setup v p) ≡ true → line v p ≢ text

-- a line of an enabled pick isn't the first line that is none
no_first : (setup : Setup) (s u : State) (q : Pick) (bytes text behind later : List ℕ) → step setup s q ≡ Some u → IsWhole (line s q) → bytes ≡ line s q ++ later
    → IsFirstLine bytes text behind → line s q ≢ text → ⊥
no_first setup s u q bytes text behind later to whole is first other = by first.ends where
  by : (text ≡ first.front ++ 10 ∷ []) ⊎ ((text ≡ first.front) × (behind ≡ [])) → ⊥
  by (inl e) =
      let ended : IsWhole text = record { front = first.front; no_feed = first.no_feed; is = e } in
      other (whole_same (line s q) text later behind whole ended (sym is ∙ first.bytes_are)).0
  by (inr e) =
      let none : NoFeed text = subst NoFeed (sym e.0) first.no_feed in
      let all : text ≡ bytes = sym (first.bytes_are ∙ ap (λ (l : List ℕ). text ++ l) e.1 ∙ append-nil text) in
      no_whole_in text (line s q) later none whole (all ∙ is)

nothing_first : (text behind : List ℕ) → [] ≡ text ++ behind → text ≡ []
nothing_first [] behind e = refl
nothing_first (x ∷ text) behind e = absurd (cc)

no_fault : (setup : Setup) (s v t : State) (ps qs : List Pick) (rest text behind bytes : List ℕ) → Fault setup s ps v rest text behind bytes → Along setup s qs t bytes → ⊥
no_fault setup s v t [] [] rest text behind bytes f a =
    let none : [] ≡ rest = sym a.bytes_are ∙ f.bytes_are in
    f.first.some (nothing_first text behind (none ∙ f.first.bytes_are))
no_fault setup s v t [] (q ∷ qs) rest text behind bytes f a =
    let y = behind_first setup s t q qs bytes a in
    let same : s ≡ v = same_Some s v f.runs in
    let enabled : is_some (step setup v q) ≡ true = ap (λ (z : State). is_some (step setup z q)) (sym same) ∙ ap is_some y.to in
    let other : line s q ≢ text = λ e. f.none q enabled (ap (λ (z : State). line z q) (sym same) ∙ e) in
    no_first setup s y.next q rest text behind y.later y.to y.whole (sym f.bytes_are ∙ y.is) f.first other
no_fault setup s v t (p ∷ ps) [] rest text behind bytes f a =
    let x = and_then_some (λ (z : State). run_by (step setup) z ps) (step setup s p) v f.runs in
    let small : s.steps < 2 ^ 40 = omega (arith, a.few) in
    let whole = line_whole setup s x.0 p a.numbered small x.1 in
    no_whole_in [] (line s p) (concat (lines setup x.0 ps) ++ rest) tt whole
    (sym a.bytes_are ∙ f.bytes_are ∙ ap (λ (l : List ℕ). l ++ rest) (lines_behind setup s x.0 p ps x.1) ∙ append_assoc (line s p) (concat (lines setup x.0 ps)) rest)
no_fault setup s v t (p ∷ ps) (q ∷ qs) rest text behind bytes f a =
    let x = and_then_some (λ (z : State). run_by (step setup) z ps) (step setup s p) v f.runs in
    let y = behind_first setup s t q qs bytes a in
    let xs = concat (lines setup x.0 ps) ++ rest in
    let is : bytes ≡ line s p ++ xs = f.bytes_are ∙ ap (λ (l : List ℕ). l ++ rest) (lines_behind setup s x.0 p ps x.1) ∙ append_assoc (line s p) (concat (lines setup x.0 ps)) rest in
    let e : line s p ++ xs ≡ line s q ++ y.later = sym is ∙ y.is in
    let state = same_state setup s x.0 y.next p q a.numbered y.small x.1 y.to xs y.later e in
    let later = same_rest setup s x.0 y.next p q a.numbered y.small x.1 y.to xs y.later e in
    let moved : Along setup x.0 qs t y.later = subst (λ (z : State). Along setup z qs t y.later) (sym state) y.along in
    no_fault setup x.0 v t ps qs rest text behind y.later
    (record { runs = x.2; bytes_are = sym later; first = f.first; none = f.none }) moved

-- what stands behind the first step before a fault
record FaultBehind (setup : Setup) (s : State) (p : Pick) (ps : List Pick) (v : State) (rest text behind bytes : List ℕ) : Type 0 where
  next : State
  later : List ℕ
  to : step setup s p ≡ Some next
  small : s.steps < 2 ^ 40
  whole : IsWhole (line s p)
  is : bytes ≡ line s p ++ later
  numbered : Numbered next
  few : next.steps + length later < 2 ^ 40
  fault : Fault setup next ps v rest text behind later

fault_behind : (setup : Setup) (s v : State) (p : Pick) (ps : List Pick) (rest text behind bytes : List ℕ) → Numbered s → s.steps + length bytes < 2 ^ 40
    → Fault setup s (p ∷ ps) v rest text behind bytes → FaultBehind setup s p ps v rest text behind bytes
fault_behind setup s v p ps rest text behind bytes n few f =
    let x = and_then_some (λ (z : State). run_by (step setup) z ps) (step setup s p) v f.runs in
    let later = concat (lines setup x.0 ps) ++ rest in
    let is : bytes ≡ line s p ++ later = f.bytes_are ∙ ap (λ (l : List ℕ). l ++ rest) (lines_behind setup s x.0 p ps x.1) ∙ append_assoc (line s p) (concat (lines setup x.0 ps)) rest in
    let small : s.steps < 2 ^ 40 = omega (arith, few) in
    let whole = line_whole setup s x.0 p n small x.1 in
    let long = line_long (line s p) whole in
    let l = length-append (line s p) later in
    let k = ap length is in
    let c = step_counts setup s x.0 p x.1 in
    record {
      next = x.0;
      later = later;
      to = x.1;
      small = small;
      whole = whole;
      is = is;
      numbered = numbered_step setup s x.0 p n x.1;
      few = omega (arith, few);
      fault = record { runs = x.2; bytes_are = refl; first = f.first; none = f.none };
    }

-- no fault stands before the first step of another
none_before : (setup : Setup) (s v w : State) (q : Pick) (qs : List Pick) (rest text behind rest' text' behind' bytes : List ℕ)
    → Fault setup s [] v rest text behind bytes → FaultBehind setup s q qs w rest' text' behind' bytes → ⊥
none_before setup s v w q qs rest text behind rest' text' behind' bytes f y =
    let same : s ≡ v = same_Some s v f.runs in
    let enabled : is_some (step setup v q) ≡ true = ap (λ (z : State). is_some (step setup z q)) (sym same) ∙ ap is_some y.to in
    let other : line s q ≢ text = λ e. f.none q enabled (ap (λ (z : State). line z q) (sym same) ∙ e) in
    no_first setup s y.next q rest text behind y.later y.to y.whole (sym f.bytes_are ∙ y.is) f.first other

-- the first faults of the same bytes stand behind the same number of steps
one_fault : (setup : Setup) (s v w : State) (ps qs : List Pick) (rest text behind rest' text' behind' bytes : List ℕ) → Numbered s → s.steps + length bytes < 2 ^ 40
    → Fault setup s ps v rest text behind bytes → Fault setup s qs w rest' text' behind' bytes → length ps ≡ length qs
one_fault setup s v w [] [] rest text behind rest' text' behind' bytes n few f g = refl
one_fault setup s v w [] (q ∷ qs) rest text behind rest' text' behind' bytes n few f g =
    absurd (none_before setup s v w q qs rest text behind rest' text' behind' bytes f (fault_behind setup s w q qs rest' text' behind' bytes n few g))
one_fault setup s v w (p ∷ ps) [] rest text behind rest' text' behind' bytes n few f g =
    absurd (none_before setup s w v p ps rest' text' behind' rest text behind bytes g (fault_behind setup s v p ps rest text behind bytes n few f))
one_fault setup s v w (p ∷ ps) (q ∷ qs) rest text behind rest' text' behind' bytes n few f g =
    let x = fault_behind setup s v p ps rest text behind bytes n few f in
    let y = fault_behind setup s w q qs rest' text' behind' bytes n few g in
    let e : line s p ++ x.later ≡ line s q ++ y.later = sym x.is ∙ y.is in
    let state = same_state setup s x.next y.next p q n x.small x.to y.to x.later y.later e in
    let later = same_rest setup s x.next y.next p q n x.small x.to y.to x.later y.later e in
    let moved : Fault setup x.next qs w rest' text' behind' y.later = subst (λ (z : State). Fault setup z qs w rest' text' behind' y.later) (sym state) y.fault in
    let there : Fault setup x.next qs w rest' text' behind' x.later = subst (λ (l : List ℕ). Fault setup x.next qs w rest' text' behind' l) (sym later) moved in
    let rest_same = one_fault setup x.next v w ps qs rest text behind rest' text' behind' x.later x.numbered x.few x.fault there in
    omega (arith, rest_same)

-- ---- of an image

begun : (image : Image) (d : Depths) (bytes : List ℕ) (t : State) → length bytes < 2 ^ 40 → (x : IsTrace (setup_of image d) (opened image) bytes t)
    → Along (setup_of image d) (opened image) x.picks t bytes
begun image d bytes t few x = record { numbered = numbered_first image; few = omega arith; runs = x.runs; bytes_are = x.bytes_are }

pub traces_fault_not : (image : Image) (d : Depths) (bytes text : List ℕ) (n : ℕ) (t : State) → length bytes < 2 ^ 40
    → FailsAt (setup_of image d) (opened image) bytes n text → ¬ (IsTrace (setup_of image d) (opened image) bytes t)
traces_fault_not image d bytes text n t few f x =
    no_fault (setup_of image d) (opened image) f.state t f.picks x.picks f.rest text f.behind bytes
    (record { runs = f.runs; bytes_are = f.bytes_are; first = f.first; none = f.none }) (begun image d bytes t few x)

-- bytes have one first fault at most
pub faults_are_one : (image : Image) (d : Depths) (bytes text other : List ℕ) (m n : ℕ) → length bytes < 2 ^ 40
    → FailsAt (setup_of image d) (opened image) bytes m text → FailsAt (setup_of image d) (opened image) bytes n other → m ≡ n
faults_are_one image d bytes text other m n few f g =
    let same =
    one_fault (setup_of image d) (opened image) f.state g.state f.picks g.picks f.rest text f.behind g.rest other g.behind bytes (numbered_first image) (omega arith)
    (record { runs = f.runs; bytes_are = f.bytes_are; first = f.first; none = f.none })
    (record { runs = g.runs; bytes_are = g.bytes_are; first = g.first; none = g.none }) in
    let c = f.count in
    let e = g.count in
    omega arith

pub traces_pick_one : (image : Image) (d : Depths) (bytes : List ℕ) (t u : State) → length bytes < 2 ^ 40
    → (x : IsTrace (setup_of image d) (opened image) bytes t) → (y : IsTrace (setup_of image d) (opened image) bytes u) → x.picks ≡ y.picks
traces_pick_one image d bytes t u few x y =
    (one_run (setup_of image d) (opened image) t u x.picks y.picks bytes (begun image d bytes t few x) (begun image d bytes u few y)).0

pub traces_lead_to_one : (image : Image) (d : Depths) (bytes : List ℕ) (t u : State) → length bytes < 2 ^ 40
    → IsTrace (setup_of image d) (opened image) bytes t → IsTrace (setup_of image d) (opened image) bytes u → t ≡ u
traces_lead_to_one image d bytes t u few x y =
    (one_run (setup_of image d) (opened image) t u x.picks y.picks bytes (begun image d bytes t few x) (begun image d bytes u few y)).1

numbered_run : (setup : Setup) (s t : State) (ps : List Pick) → Numbered s → Runs setup s ps t → Numbered t × (t.steps ≡ s.steps + length ps)
numbered_run setup s t [] n run =
    let same : s ≡ t = same_Some s t run in
    (subst Numbered same n, ap (λ (v : State). v.steps) (sym same) ∙ (omega arith))
numbered_run setup s t (p ∷ ps) n run =
    let x = and_then_some (λ (v : State). run_by (step setup) v ps) (step setup s p) t run in
    let c = step_counts setup s x.0 p x.1 in
    let r = numbered_run setup x.0 t ps (numbered_step setup s x.0 p n x.1) x.2 in
    (r.0, (let e = r.1 in omega arith))

pub lines_named : (image : Image) (d : Depths) (ps : List Pick) (s t : State) (p : Pick) → Runs (setup_of image d) (opened image) ps s → length ps < 2 ^ 40
    → step (setup_of image d) s p ≡ Some t → Names (line s p) p
lines_named image d ps s t p run few h =
    let r = numbered_run (setup_of image d) (opened image) s ps (numbered_first image) run in
    let c = r.1 in
    line_is_named (setup_of image d) s t p r.0 (omega arith) h
