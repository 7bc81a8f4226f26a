-- A group's two parts, one after the other, do what its statements do in turn.
use Rattle.std.proofs.Common.{length, ◌≡◌, ℕ, Bool, true, false, not, ◌&&◌, if◌then◌else◌, List, [], ◌∷◌, ◌++◌, Option, Some, None, refl, ap, sym, subst}
use Rattle.dae_base.specs.Words.{loaded, width_of}
use Rattle.dae_meaning.specs.Operations.{misplaced}
use Rattle.dae_meaning.specs.Worlds.{World, ticked, fetched}
use Rattle.dae_meaning.specs.Results.{At, Next, Trapped, Run, ◌▷◌, checked, within}
use Rattle.dae_meaning.specs.Alike.{FirstStrays}
use Rattle.dae_meaning.specs.Variables.{Env, put}
use Rattle.dae_ir.specs.Form.{value, computed, fault, Program}
use Rattle.dae_ir.specs.Classes.{Classes, has, has_value, has_check}
use Rattle.dae_ir.specs.declared.stream.Part.{Part}
use Rattle.dae_ir.specs.declared.stream.Part.TheVariants.{Sets, Loads, Tests}
use Rattle.dae_ir.specs.declared.stream.Last.{Last}
use Rattle.dae_ir.specs.Canonical.{Sides, is_issued, Access, Passed, Failed, Strayed as GoneAstray, reached, with_word, with_copy, unless, access, Takes, sets_e, loads_e, execute, finished, grouped}
use Rattle.dae_ir_pair.specs.Laws.{AgreeOn, Agree}
use Rattle.dae_ir_pair.proofs.Combine.{Ends, over}
use Rattle.dae_ir_pair.proofs.Agreement.{value_agrees, computed_agrees, fault_agrees, put_agrees}

-- what a part does in the form
abbrev pub does_part : Program → Classes → Part → Run Env
does_part p c (Sets place v x) env w = At Next (put true v (computed x w.frame env) env) (ticked w)
does_part p c (Loads place v kind x) env w =
    within (misplaced (width_of kind) (value x env) (length w.memory)) w
    (At Next (put true v (loaded kind (value x env) w.memory) env) (fetched (is_issued c v) w))
does_part p c (Tests place check) env w = checked (fault p check w env) env (ticked w)

-- parts in turn, and then k
abbrev pub runs : Program → Classes → List Part → Run Env → Run Env
runs p c [] k = k
runs p c (q ∷ g) k = λ env w. does_part p c q env w ▷ runs p c g k

pub runs_more : (p : Program) (c : Classes) (g : List Part) (q : Part) (k : Run Env) → runs p c (g ++ q ∷ []) k ≡ runs p c g (λ env w. does_part p c q env w ▷ k)
runs_more p c [] q k = refl
runs_more p c (r ∷ g) q k = ap (λ (s : Run Env). λ (env : Env) (w : World). does_part p c r env w ▷ s) (runs_more p c g q k)

abbrev pub PartKept : Classes → Part → Type 0
PartKept c (Sets place v x) = (c.s v ≡ true → has_value c.s x ≡ true) × (c.s v ≡ false → c.needs v ≡ true → has_value c.needs x ≡ true)
PartKept c (Loads place v kind x) = has c.s x ≡ true
PartKept c (Tests place check) = has_check c.s check ≡ true

abbrev pub PartsKept : Classes → List Part → Type 0
PartsKept c [] = Unit {0}
PartsKept c (p ∷ g) = PartKept c p × PartsKept c g

pub parts_more : (c : Classes) (g : List Part) (p : Part) → PartsKept c g → PartKept c p → PartsKept c (g ++ p ∷ [])
parts_more c [] p h k = (k, tt)
parts_more c (q ∷ g) p h k = (h.0, parts_more c g p h.1 k)

-- a word that A loads for E, and a copy, is the one that E takes
grouped_loads : (p : Program) (s n : Bool) (last : Last) (go : Takes) (v x : ℕ) (e : Env) (r : Access) → grouped p last (λ words copies. loads_e s n go v words copies e) (with_word (not s && n) x (with_copy (s && n) x r)) ≡ grouped p last (λ words copies. go words copies (put n v x e)) r
grouped_loads p true true last go v x e (Passed a words copies w) = refl
grouped_loads p true true last go v x e (Failed code w) = refl
grouped_loads p true true last go v x e (GoneAstray w) = refl
grouped_loads p false true last go v x e (Passed a words copies w) = refl
grouped_loads p false true last go v x e (Failed code w) = refl
grouped_loads p false true last go v x e (GoneAstray w) = refl
grouped_loads p true false last go v x e (Passed a words copies w) = refl
grouped_loads p true false last go v x e (Failed code w) = refl
grouped_loads p true false last go v x e (GoneAstray w) = refl
grouped_loads p false false last go v x e (Passed a words copies w) = refl
grouped_loads p false false last go v x e (Failed code w) = refl
grouped_loads p false false last go v x e (GoneAstray w) = refl

grouped_sets : (p : Program) (s n : Bool) (last : Last) (go : Takes) (v x : ℕ) (own : Env → ℕ) (e : Env) (r : Access) → grouped p last (λ words copies. sets_e s n go v own words copies e) (with_copy (s && n) x r) ≡ grouped p last (λ words copies. go words copies (put n v (if s then x else own e) e)) r
grouped_sets p true true last go v x own e (Passed a words copies w) = refl
grouped_sets p true true last go v x own e (Failed code w) = refl
grouped_sets p true true last go v x own e (GoneAstray w) = refl
grouped_sets p false true last go v x own e (Passed a words copies w) = refl
grouped_sets p false true last go v x own e (Failed code w) = refl
grouped_sets p false true last go v x own e (GoneAstray w) = refl
grouped_sets p true false last go v x own e (Passed a words copies w) = refl
grouped_sets p true false last go v x own e (Failed code w) = refl
grouped_sets p true false last go v x own e (GoneAstray w) = refl
grouped_sets p false false last go v x own e (Passed a words copies w) = refl
grouped_sets p false false last go v x own e (Failed code w) = refl
grouped_sets p false false last go v x own e (GoneAstray w) = refl

-- a value by its flag
chosen : (b : Bool) (x y z : ℕ) → (b ≡ true → x ≡ z) → (b ≡ false → y ≡ z) → (if b then x else y) ≡ z
chosen true x y z h k = h refl
chosen false x y z h k = k refl

module _ (p : Program) (c : Classes) (last : Last) (k : Run Env) (k' : Run Sides)
    (ends : (env : Env) (b : Sides) (w : World) → Agree c env b → Ends (Agree c) (k env w) (finished p last b w ▷ k')) where
  -- a check, which fails on both sides or on none
  unless_alike : (o : Option ℕ) (env : Env) (w : World) (go : List ℕ → List ℕ → Env) (s : Run Env) (r : Access) → Ends (Agree c) (s env w) (grouped p last go r ▷ k') → Ends (Agree c) (checked o env w ▷ s) (grouped p last go (unless o w r) ▷ k')
  unless_alike None env w go s r h = h
  unless_alike (Some code) env w go s r h = over _ (Trapped code) w

  -- a load, which is misplaced on both sides or on none
  reached_alike : (o : Option ℕ) (env : Env) (w w' : World) (go : List ℕ → List ℕ → Env) (s : Run Env) (r : Access) → Ends (Agree c) (s env w') (grouped p last go r ▷ k') → Ends (Agree c) (within o w (At Next env w') ▷ s) (grouped p last go (reached o w r) ▷ k')
  reached_alike None env w w' go s r h = h
  reached_alike (Some code) env w w' go s r h = FirstStrays w (grouped p last go (GoneAstray w) ▷ k')

  pub group_alike : (g : List Part) → PartsKept c g → (env a e : Env) (w : World) → AgreeOn c.s env a → AgreeOn c.needs env e → Ends (Agree c) (runs p c g k env w) (grouped p last (λ words copies. execute c g w.frame words copies e) (access p c g w a) ▷ k')
  group_alike [] h env a e w ha he = ends env (record { a = a; e = e }) w (record { a = ha; e = he })
  group_alike (Sets place v x ∷ g) h env a e w ha he =
      let y = computed x w.frame env in
      let ya = computed x w.frame a in
      let ye = computed x w.frame e in
      let r = group_alike g h.1 (put true v y env) (put (c.s v) v ya a) (put (c.needs v) v (if c.s v then ya else ye) e) (ticked w)
      (put_agrees c.s env a ha v y ya (λ m. computed_agrees c.s env a ha x w.frame (h.0.0 m)))
      (put_agrees c.needs env e he v y (if c.s v then ya else ye) (λ m. chosen (c.s v) ya ye y (λ t. computed_agrees c.s env a ha x w.frame (h.0.0 t)) (λ t. computed_agrees c.needs env e he x w.frame (h.0.1 t m)))) in
      rw (grouped_sets p (c.s v) (c.needs v) last (execute c g w.frame) v ya (computed x w.frame) e (access p c g (ticked w) (put (c.s v) v ya a))) r
  group_alike (Loads place v kind x ∷ g) h env a e w ha he =
      let y = loaded kind (value x env) w.memory in
      let y' = loaded kind (value x a) w.memory in
      let at_same = value_agrees c.s env a ha x h.0 in
      let same : y' ≡ y = ap (λ at. loaded kind at w.memory) at_same in
      let u = fetched (is_issued c v) w in
      let r = group_alike g h.1 (put true v y env) (put (c.s v) v y' a) (put (c.needs v) v y' e) u
      (put_agrees c.s env a ha v y y' (λ _. same))
      (put_agrees c.needs env e he v y y' (λ _. same)) in
      let o = misplaced (width_of kind) (value x env) (length w.memory) in
      let sent = with_word (not (c.s v) && c.needs v) y' (with_copy (c.s v && c.needs v) y' (access p c g u (put (c.s v) v y' a))) in
      let go = λ (words copies : List ℕ). loads_e (c.s v) (c.needs v) (execute c g w.frame) v words copies e in
      subst (λ (at : ℕ). Ends (Agree c) (within o w (At Next (put true v y env) u) ▷ runs p c g k) (grouped p last go (reached (misplaced (width_of kind) at (length w.memory)) w sent) ▷ k')) (sym at_same)
      (reached_alike o (put true v y env) w u go (runs p c g k) sent (rw (grouped_loads p (c.s v) (c.needs v) last (execute c g w.frame) v y' e (access p c g u (put (c.s v) v y' a))) r))
  group_alike (Tests place check ∷ g) h env a e w ha he =
      rw (fault_agrees c.s env a ha p check w h.0)
      (unless_alike (fault p check w env) env (ticked w) (λ words copies. execute c g w.frame words copies e) (runs p c g k) (access p c g (ticked w) a) (group_alike g h.1 env a e (ticked w) ha he))
