-- The code of a form's streams, by the sizes of the form and its calls.
use Rattle.std.proofs.Common.{◌≡◌, inl, inr, ℕ, ◌+◌, ◌*◌, ◌^◌, ◌≤◌, ◌<◌, Bool, true, false, not, ◌&&◌, List, [], ◌∷◌, ◌++◌, refl, sym, subst, ◌∙◌, arith}
use Rattle.std.specs.Prelude.{if◌then◌else◌, Option, Some, None}
use Rattle.dae_base.specs.declared.Place.{Place}
use Rattle.dae_image.specs.declared.Image.{Image}
use Rattle.dae_ir.specs.Code.{Done, Do, If, Loop}
use Rattle.dae_ir.specs.Form.{Form, form_of}
use Rattle.dae_ir.specs.Classes.{Classes, has_check, classes_of}
use Rattle.dae_ir.specs.Rounds.{Jump, Breaks, Continues, Enters, Gives, Halts, Round, Group, Alone, Region, Rounds, Joins, Closes, is_full, decision, closed, placed, region, one_sided, rounds}
use Rattle.dae_ir.specs.Sizes.{form_size}
use Rattle.dae_ir.specs.Streams.{Actions, mark, when, a_part, e_part, parts, message, gives_address, hears_check, e_last, group_of, jump_action, inside_of, has_loop, region_of, side_of, stream_of, actions_of, only_failure}
use Rattle.dae_ir.specs.Programs.{IsFunctionOf, AreFunctionsOf, IsPairOf}
use Rattle.dae_ir.specs.declared.form.Ir.{Ir}
use Rattle.dae_ir.specs.declared.form.Function.{Function}
use Rattle.dae_ir.specs.declared.form.Item.TheVariants.{Assign, Load, Store, Print, Expect, Break as Leave, Continue as Skip, Call as Enter, Return as Give, Halt}
use Rattle.dae_ir.specs.declared.form.Check.{Check}
use Rattle.dae_ir.specs.declared.form.Operand.TheVariants.{Number}
use Rattle.dae_ir.specs.declared.stream.Class.{Class}
use Rattle.dae_ir.specs.declared.stream.Pair.{Pair}
use Rattle.dae_ir.specs.declared.stream.StreamFunction.{StreamFunction}
use Rattle.dae_ir.specs.declared.stream.Part.{Part}
use Rattle.dae_ir.specs.declared.stream.Part.TheVariants.{Sets, Loads, Tests}
use Rattle.dae_ir.specs.declared.stream.Last.{Last}
use Rattle.dae_ir.specs.declared.stream.Last.TheVariants.{Nothing, Stores, Prints, Decides}
use Rattle.dae_ir.specs.declared.stream.Mark.{Mark}
use Rattle.dae_ir.specs.declared.stream.Action.{Action}
use Rattle.dae_ir.specs.declared.stream.Action.TheVariants.{Tell, Hear}
use Rattle.dae_ir_pair.proofs.Laws.{streams_are_small}
use Rattle.dae_select_blocks.specs.Sizes.{one_call, calls_in, most_words_in}
use Rattle.dae_link.specs.Sizes.{most_of_functions, most_words}
use Rattle.dae_link.specs.Linked.{HasShortCode, IsTooLong}
use Rattle.dae_compile.specs.Generated.{calls_of_form, words_of_functions, words_of_form, IsShort}

module _ (of : ℕ → Classes) (c : Classes) (cap : ℕ) where
  -- ---- groups hold no call

  when_calls : (b : Bool) (m : Mark) (a : Action) (k : Actions) → one_call a ≡ 0 → calls_in (when b m a k) ≡ calls_in k
  when_calls true m a k e = omega (arith, e)
  when_calls false m a k e = refl

  a_part_calls : (n : ℕ) (p : Part) (k : Actions) → calls_in (a_part c n p k) ≡ calls_in k
  a_part_calls n (Sets place v x) k = when_calls (c.s v) _ _ _ refl ∙ when_calls (c.s v && c.needs v) _ _ _ refl
  a_part_calls n (Loads place v kind x) k = when_calls (not (c.s v) && c.needs v) _ _ _ refl ∙ when_calls (c.s v) _ _ _ refl ∙ when_calls (c.s v && c.needs v) _ _ _ refl
  a_part_calls n (Tests place check) k = omega arith

  e_part_calls : (n : ℕ) (p : Part) (k : Actions) → calls_in (e_part c n p k) ≡ calls_in k
  e_part_calls n (Sets place v x) k = when_calls (c.s v && c.needs v) _ _ _ refl ∙ when_calls (not (c.s v) && c.needs v) _ _ _ refl
  e_part_calls n (Loads place v kind x) k = when_calls (c.s v && c.needs v) _ _ _ refl ∙ when_calls (not (c.s v) && c.needs v) _ _ _ refl
  e_part_calls n (Tests place check) k = refl

  parts_calls : (f : Part → Actions → Actions) → ((p : Part) (k : Actions) → calls_in (f p k) ≡ calls_in k) → (g : List Part) (k : Actions) → calls_in (parts f g k) ≡ calls_in k
  parts_calls f h [] k = refl
  parts_calls f h (p ∷ g) k = h p (parts f g k) ∙ parts_calls f h g k

  message_calls : (n : ℕ) (a : Action) (g : List Part) (k : Actions) → one_call a ≡ 0 → calls_in (message n a g k) ≡ calls_in k
  message_calls n a [] k e = refl
  message_calls n a (Sets place v y ∷ g) k e = message_calls n a g k e
  message_calls n a (Loads place v kind y ∷ g) k e = message_calls n a g k e
  message_calls n a (Tests place check ∷ g) k e = omega (arith, e)

  address_calls : (n : ℕ) (last : Last) (k : Actions) → calls_in (gives_address n last k) ≡ calls_in k
  address_calls n Nothing k = refl
  address_calls n (Stores place width x y) k = omega arith
  address_calls n (Prints place spelling x) k = refl
  address_calls n (Decides place check) k = refl

  hears_calls : (n : ℕ) (last : Last) (k : Actions) → calls_in (hears_check n last k) ≡ calls_in k
  hears_calls n Nothing k = refl
  hears_calls n (Stores place width x y) k = refl
  hears_calls n (Prints place spelling x) k = refl
  hears_calls n (Decides place check) k = omega arith

  last_calls : (n : ℕ) (last : Last) (k : Actions) → calls_in (e_last n last k) ≡ calls_in k
  last_calls n Nothing k = refl
  last_calls n (Stores place width x y) k = omega arith
  last_calls n (Prints place spelling x) k = omega arith
  last_calls n (Decides place check) k = omega arith

  group_calls : (b : Bool) (n : ℕ) (g : List Part) (last : Last) (k : Actions) → calls_in (group_of b c n g last k) ≡ calls_in k
  group_calls true n g last k = parts_calls (a_part c n) (a_part_calls n) g _ ∙ address_calls n last _ ∙ message_calls n (Tell (Number 0)) g _ refl ∙ hears_calls n last k
  group_calls false n g last k = message_calls n (Hear (only_failure g)) g _ refl ∙ parts_calls (e_part c n) (e_part_calls n) g _ ∙ last_calls n last k

  -- ---- rounds

  abbrev jump_calls : Jump → ℕ
  jump_calls Breaks = 0
  jump_calls Continues = 0
  jump_calls (Enters v f xs) = 1
  jump_calls (Gives x) = 0
  jump_calls (Halts x) = 0

  abbrev one_round : Round → ℕ
  one_round (Group g last) = 0
  one_round (Alone jump) = jump_calls jump
  one_round (Region d code) = calls_of_form code

  abbrev round_calls : Rounds → ℕ
  round_calls Done = 0
  round_calls (Do place r k) = one_round r + round_calls k
  round_calls (If place d p q k) = round_calls p + (round_calls q + round_calls k)
  round_calls (Loop place body step k) = round_calls body + (round_calls step + round_calls k)

  closed_calls : (g : List Part) (r : Rounds) → round_calls (closed g r) ≡ round_calls r
  closed_calls [] r = refl
  closed_calls (p ∷ g) r = omega arith

  joins_calls : (g : List Part) (place : Place) (p : Part) (r : List Part → Rounds) (m : ℕ) → ((g : List Part) → round_calls (r g) ≤ m) → round_calls (placed c cap g place (Joins p) r) ≤ m
  joins_calls g place p r m h = by (is_full c cap g p)
    where
      by : (t : Bool) → round_calls (if t then closed g (r (p ∷ [])) else r (g ++ p ∷ [])) ≤ m
      by true = omega (arith, closed_calls g (r (p ∷ [])), h (p ∷ []))
      by false = h (g ++ p ∷ [])

  expects_calls : (g : List Part) (place : Place) (check : Check) (t : Bool) (r : List Part → Rounds) (m : ℕ) → ((g : List Part) → round_calls (r g) ≤ m) → round_calls (placed c cap g place (if t then Joins (Tests place check) else Closes (Decides place check)) r) ≤ m
  expects_calls g place check true r m h = joins_calls g place (Tests place check) r m h
  expects_calls g place check false r m h = omega (arith, h [])

  sided_calls : (o : Option Bool) (place : Place) (code : Form) (k both : Rounds) (m : ℕ) → calls_of_form code + round_calls k ≤ m → round_calls both ≤ m → round_calls (one_sided o place code k both) ≤ m
  sided_calls None place code k both m h i = i
  sided_calls (Some d) place code k both m h i = h

  from : {a b m : ℕ} → a ≡ b → b ≤ m → a ≤ m
  from e h = omega (arith, e, h)

  rounds_calls : (outside : Bool) (form : Form) (g : List Part) → round_calls (rounds c cap outside form g) ≤ calls_of_form form
  rounds_calls outside Done g = omega (arith, closed_calls g Done)
  rounds_calls outside (Do place (Assign v x) k) g = omega (arith, joins_calls g place (Sets place v x) (rounds c cap outside k) (calls_of_form k) (rounds_calls outside k))
  rounds_calls outside (Do place (Load v kind x) k) g = omega (arith, joins_calls g place (Loads place v kind x) (rounds c cap outside k) (calls_of_form k) (rounds_calls outside k))
  rounds_calls outside (Do place (Store width x y) k) g = omega (arith, rounds_calls outside k [])
  rounds_calls outside (Do place (Print spelling x) k) g = omega (arith, rounds_calls outside k [])
  rounds_calls outside (Do place (Expect check) k) g = omega (arith, expects_calls g place check (has_check c.s check) (rounds c cap outside k) (calls_of_form k) (rounds_calls outside k))
  rounds_calls outside (Do place Leave k) g = omega (arith, closed_calls g (Do place (Alone Breaks) (rounds c cap outside k [])), rounds_calls outside k [])
  rounds_calls outside (Do place Skip k) g = omega (arith, closed_calls g (Do place (Alone Continues) (rounds c cap outside k [])), rounds_calls outside k [])
  rounds_calls outside (Do place (Enter v f xs) k) g = omega (arith, closed_calls g (Do place (Alone (Enters v f xs)) (rounds c cap outside k [])), rounds_calls outside k [])
  rounds_calls outside (Do place (Give x) k) g = omega (arith, closed_calls g (Do place (Alone (Gives x)) (rounds c cap outside k [])), rounds_calls outside k [])
  rounds_calls outside (Do place (Halt x) k) g = omega (arith, closed_calls g (Do place (Alone (Halts x)) (rounds c cap outside k [])), rounds_calls outside k [])
  rounds_calls outside (If place t p q k) g =
      let i = rounds_calls outside p [] in let j = rounds_calls outside q [] in let l = rounds_calls outside k [] in
      from (closed_calls g _) (sided_calls (region outside c (If place t p q Done)) place (If place t p q Done) (rounds c cap outside k []) (If place (decision c t) (rounds c cap outside p []) (rounds c cap outside q []) (rounds c cap outside k [])) (calls_of_form (If place t p q k)) (omega (arith, l)) (omega (arith, i, j, l)))
  rounds_calls outside (Loop place body step k) g =
      let i = rounds_calls outside body [] in let j = rounds_calls outside step [] in let l = rounds_calls outside k [] in
      from (closed_calls g _) (sided_calls (region outside c (Loop place body step Done)) place (Loop place body step Done) (rounds c cap outside k []) (Loop place (rounds c cap outside body []) (rounds c cap outside step []) (rounds c cap outside k [])) (calls_of_form (Loop place body step k)) (omega (arith, l)) (omega (arith, i, j, l)))

  -- ---- the stream

  action_calls : (b : Bool) (jump : Jump) → one_call (jump_action b of c jump) ≡ jump_calls jump
  action_calls b Breaks = refl
  action_calls b Continues = refl
  action_calls b (Enters v f xs) = refl
  action_calls b (Gives x) = refl
  action_calls b (Halts x) = refl

  inside_calls : (b : Bool) (n : ℕ) (r : Rounds) (k : Actions) → calls_in (inside_of b of c n r k) ≤ round_calls r + calls_in k
  inside_calls b n Done k = omega arith
  inside_calls b n (Do place (Group g last) r) k = omega (arith, group_calls b n g last (inside_of b of c (n + 1) r k), inside_calls b (n + 1) r k)
  inside_calls b n (Do place (Alone jump) r) k = omega (arith, action_calls b jump, inside_calls b n r k)
  inside_calls b n (Do place (Region d code) r) k = omega (arith, inside_calls b n r k)
  inside_calls b n (If place d p q r) k = omega (arith, inside_calls b 0 p Done, inside_calls b 0 q Done, inside_calls b n r k)
  inside_calls b n (Loop place body step r) k = omega (arith, inside_calls b 0 body Done, inside_calls b 0 step Done, inside_calls b n r k)

  region_calls : (b : Bool) (n : ℕ) (place : Place) (d : Bool) (code : Form) (k : Actions) → calls_in (region_of b of c cap n place d code k) ≤ calls_of_form code + calls_in k
  region_calls true n place true code k =
      let k' = when (has_loop code) (mark place n) (Tell (Number 0)) k in
      omega (arith, inside_calls true n (rounds c cap false code []) k', rounds_calls false code [], when_calls (has_loop code) (mark place n) (Tell (Number 0)) k refl)
  region_calls false n place true code k = omega (arith, when_calls (has_loop code) (mark place n) (Hear None) k refl)
  region_calls true n place false code k = omega arith
  region_calls false n place false code k = omega (arith, inside_calls false n (rounds c cap false code []) k, rounds_calls false code [])

  side_calls : (b : Bool) (n : ℕ) (r : Rounds) (k : Actions) → calls_in (side_of b of c cap n r k) ≤ round_calls r + calls_in k
  side_calls b n Done k = omega arith
  side_calls b n (Do place (Group g last) r) k = omega (arith, group_calls b n g last (side_of b of c cap (n + 1) r k), side_calls b (n + 1) r k)
  side_calls b n (Do place (Alone jump) r) k = omega (arith, action_calls b jump, side_calls b n r k)
  side_calls b n (Do place (Region d code) r) k = omega (arith, region_calls b n place d code (side_of b of c cap n r k), side_calls b n r k)
  side_calls b n (If place d p q r) k = omega (arith, side_calls b 0 p Done, side_calls b 0 q Done, side_calls b n r k)
  side_calls b n (Loop place body step r) k = omega (arith, side_calls b 0 body Done, side_calls b 0 step Done, side_calls b n r k)

  stream_calls : (b : Bool) (form : Form) → calls_in (stream_of b of c cap form) ≤ calls_of_form form
  stream_calls b form = omega (arith, side_calls b 0 (rounds c cap true form []) Done, rounds_calls true form [])

-- ---- the words of a form

function_words : (by_a : Bool) (of : ℕ → Classes) (c : Classes) (cap : ℕ) (f : Function) (g : StreamFunction) → IsFunctionOf by_a of c cap f g → most_words_in (actions_of g.body) ≤ 28 * form_size (form_of f.body) + 42 * calls_of_form (form_of f.body)
function_words by_a of c cap f g is =
    let size = streams_are_small by_a of c cap (form_of f.body) in
    let calls = stream_calls of c cap by_a (form_of f.body) in
    subst (λ (code : Actions). most_words_in code ≤ 28 * form_size (form_of f.body) + 42 * calls_of_form (form_of f.body)) (sym is.body) (omega (arith, size, calls))

functions_words : (by_a : Bool) (of : ℕ → Classes) (cap k : ℕ) (fs : List Function) (gs : List StreamFunction) → AreFunctionsOf by_a of cap k fs gs → most_of_functions gs ≤ words_of_functions fs
functions_words by_a of cap k [] [] is = omega arith
functions_words by_a of cap k [] (g ∷ gs) is = absurd is
functions_words by_a of cap k (f ∷ fs) [] is = absurd is
functions_words by_a of cap k (f ∷ fs) (g ∷ gs) is = omega (arith, function_words by_a of (of k) cap f g is.0, functions_words by_a of cap (k + 1) fs gs is.1)

module _ (ir : Ir) (tables : List (List Class)) (cap : ℕ) (pair : Pair) (is : IsPairOf ir tables cap pair) where
  words_a : most_words pair.a ≤ words_of_form ir
  words_a = omega (arith, functions_words true (classes_of tables) cap 0 ir.functions pair.a.functions is.a.functions)

  words_e : most_words pair.e ≤ words_of_form ir
  words_e = omega (arith, functions_words false (classes_of tables) cap 0 ir.functions pair.e.functions is.e.functions)

  pub short_code : (image : Image) → HasShortCode pair image → IsShort ir image
  short_code image h = let a = h.a in let e = h.e in record { a = omega (arith, a, words_a); e = omega (arith, e, words_e) }

  pub too_long : IsTooLong pair → 2 ^ 25 < words_of_form ir
  too_long (inl h) = omega (arith, h, words_a)
  too_long (inr h) = omega (arith, h, words_e)
