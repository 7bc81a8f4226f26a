use Rattle.std.proofs.Common.{◌≡◌, ◌∷◌, [], ◌++◌, List, ℕ, take, IfSome, Option, None, Some, rules}
use Rattle.std.specs.Io.KnownBytes.{Appends}
use Rattle.dae_io.specs.Sinks.{AppendsPrefix, IsPut, IsPutFailed}
use Rattle.dae_io.proofs.Growth.{AppendsPrefix-then, AppendsPrefix-of_more}
use Rattle.dae_machine_tests.proofs.io.pass_on.Goals as goal

first : (told : Option (List ℕ)) (a b : Option (List ℕ)) (text : List ℕ) → IfSome told (λ held. text ≡ take 100 held) → AppendsPrefix a b text → IfSome told (λ held. AppendsPrefix a b (take 100 held ++ 10 ∷ []))
first None a b text e p = tt
first (Some held) a b text e p = rw (← e) (AppendsPrefix-of_more a b text (10 ∷ []) p)

second : (told : Option (List ℕ)) (a b c : Option (List ℕ)) (text : List ℕ) → IfSome told (λ held. text ≡ take 100 held) → Appends a b text → AppendsPrefix b c (10 ∷ []) → IfSome told (λ held. AppendsPrefix a c (take 100 held ++ 10 ∷ []))
second None a b c text e p q = tt
second (Some held) a b c text e p q = rw (← e) (AppendsPrefix-then a b c text (10 ∷ []) p q)

pub returns-then-is_err-clause-prefix : goal.returns-then-is_err-clause-prefix
returns-then-is_err-clause-prefix g c = λ _.
    let p : IsPutFailed c.in-Ok.text.items (g.O.Sink.seen c.args.out.now) (g.O.Sink.seen c.put.new.self) = search rules in
    first _ _ _ _ c.in-Ok.ensures.bytes p.taken

pub returns-then-is_err-2-clause-prefix : goal.returns-then-is_err-2-clause-prefix
returns-then-is_err-2-clause-prefix g c = λ _.
    let p : IsPut c.in-Ok.text.items (g.O.Sink.seen c.args.out.now) (g.O.Sink.seen c.put.new.self) = search rules in
    let q : IsPutFailed (10 ∷ []) (g.O.Sink.seen c.put.new.self) (g.O.Sink.seen c.put-2.new.self) = search rules in
    second _ _ _ _ _ c.in-Ok.ensures.bytes p.taken q.taken
