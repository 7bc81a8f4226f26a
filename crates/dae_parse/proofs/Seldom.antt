-- What is none of those that are done often is done seldom, and the other way round.
use Rattle.std.proofs.Common.{◌≡◌, refl}
use Rattle.dae_parse_states.specs.declared.frames.Doing.{Doing}
use Rattle.dae_parse_states.specs.declared.frames.Doing.TheVariants as doing
use Rattle.dae_parse.specs.Seldom.{IsSeldom}

pub seldom_left : (g : Doing)
    → ((a : _) → g ≡ doing.Seek a → ⊥)
    → ((a : _) (b : _) → g ≡ doing.Operated a b → ⊥)
    → ((a : _) → g ≡ doing.Gave a → ⊥)
    → ((a : _) (b : _) (c : _) → g ≡ doing.Calling a b c → ⊥)
    → ((a : _) (b : _) → g ≡ doing.Specifying a b → ⊥)
    → ((a : _) → g ≡ doing.GaveSpecifiers a → ⊥)
    → ((a : _) (b : _) → g ≡ doing.Declaring a b → ⊥)
    → ((a : _) (b : _) → g ≡ doing.Suffixing a b → ⊥)
    → ((a : _) → g ≡ doing.GaveDeclarator a → ⊥)
    → (g ≡ doing.Initialising → ⊥)
    → ((a : _) (b : _) → g ≡ doing.Listing a b → ⊥)
    → ((a : _) → g ≡ doing.GaveInitialiser a → ⊥)
    → ((a : _) (b : _) → g ≡ doing.AfterItem a b → ⊥)
    → ((a : _) → g ≡ doing.GaveDeclaration a → ⊥)
    → ((a : _) → g ≡ doing.Externals a → ⊥)
    → ((a : _) → g ≡ doing.Declarations a → ⊥)
    → ((a : _) (b : _) → g ≡ doing.Statements a b → ⊥)
    → (g ≡ doing.AtStatement → ⊥)
    → ((a : _) (b : _) → g ≡ doing.GaveStatement a b → ⊥) → IsSeldom g
seldom_left (doing.Seek a) n _ _ _ _ _ _ _ _ _ _ _ _ _ _ _ _ _ _ = n a refl
seldom_left (doing.Operated a b) _ n _ _ _ _ _ _ _ _ _ _ _ _ _ _ _ _ _ = n a b refl
seldom_left (doing.Gave a) _ _ n _ _ _ _ _ _ _ _ _ _ _ _ _ _ _ _ = n a refl
seldom_left (doing.Calling a b c) _ _ _ n _ _ _ _ _ _ _ _ _ _ _ _ _ _ _ = n a b c refl
seldom_left (doing.Specifying a b) _ _ _ _ n _ _ _ _ _ _ _ _ _ _ _ _ _ _ = n a b refl
seldom_left (doing.GaveSpecifiers a) _ _ _ _ _ n _ _ _ _ _ _ _ _ _ _ _ _ _ = n a refl
seldom_left (doing.Declaring a b) _ _ _ _ _ _ n _ _ _ _ _ _ _ _ _ _ _ _ = n a b refl
seldom_left (doing.Suffixing a b) _ _ _ _ _ _ _ n _ _ _ _ _ _ _ _ _ _ _ = n a b refl
seldom_left (doing.GaveDeclarator a) _ _ _ _ _ _ _ _ n _ _ _ _ _ _ _ _ _ _ = n a refl
seldom_left doing.Initialising _ _ _ _ _ _ _ _ _ n _ _ _ _ _ _ _ _ _ = n refl
seldom_left (doing.Listing a b) _ _ _ _ _ _ _ _ _ _ n _ _ _ _ _ _ _ _ = n a b refl
seldom_left (doing.GaveInitialiser a) _ _ _ _ _ _ _ _ _ _ _ n _ _ _ _ _ _ _ = n a refl
seldom_left (doing.AfterItem a b) _ _ _ _ _ _ _ _ _ _ _ _ n _ _ _ _ _ _ = n a b refl
seldom_left (doing.GaveDeclaration a) _ _ _ _ _ _ _ _ _ _ _ _ _ n _ _ _ _ _ = n a refl
seldom_left (doing.Externals a) _ _ _ _ _ _ _ _ _ _ _ _ _ _ n _ _ _ _ = n a refl
seldom_left (doing.Declarations a) _ _ _ _ _ _ _ _ _ _ _ _ _ _ _ n _ _ _ = n a refl
seldom_left (doing.Statements a b) _ _ _ _ _ _ _ _ _ _ _ _ _ _ _ _ n _ _ = n a b refl
seldom_left doing.AtStatement _ _ _ _ _ _ _ _ _ _ _ _ _ _ _ _ _ n _ = n refl
seldom_left (doing.GaveStatement a b) _ _ _ _ _ _ _ _ _ _ _ _ _ _ _ _ _ _ n = n a b refl
seldom_left _ _ _ _ _ _ _ _ _ _ _ _ _ _ _ _ _ _ _ _ = tt

pub none_left : (g : Doing) → IsSeldom g
    → ((a : _) (b : _) → g ≡ doing.Measuring a b → ⊥)
    → ((a : _) (b : _) (c : _) (d : _) → g ≡ doing.Tagging a b c d → ⊥)
    → ((a : _) (b : _) (c : _) (d : _) (e : _) → g ≡ doing.Tagged a b c d e → ⊥)
    → ((a : _) (b : _) → g ≡ doing.InMembers a b → ⊥)
    → ((a : _) (b : _) → g ≡ doing.Enumerating a b → ⊥)
    → ((a : _) (b : _) (c : _) → g ≡ doing.Enumerated a b c → ⊥)
    → ((a : _) (b : _) → g ≡ doing.Entered a b → ⊥)
    → ((a : _) (b : _) → g ≡ doing.Entering a b → ⊥)
    → ((a : _) (b : _) (c : _) → g ≡ doing.Qualifying a b c → ⊥)
    → ((a : _) (b : _) (c : _) → g ≡ doing.Sizing a b c → ⊥)
    → ((a : _) (b : _) (c : _) → g ≡ doing.InParameters a b c → ⊥)
    → ((a : _) → g ≡ doing.Opening a → ⊥)
    → ((a : _) → g ≡ doing.Finishing a → ⊥)
    → ((a : _) → g ≡ doing.Looping a → ⊥)
    → ((a : _) (b : _) → g ≡ doing.Starting a b → ⊥)
    → ((a : _) (b : _) (c : _) (d : _) → g ≡ doing.Testing a b c d → ⊥)
    → ((a : _) → g ≡ doing.Stepping a → ⊥)
    → ((a : _) → g ≡ doing.Returning a → ⊥)
    → ((a : _) → g ≡ doing.Breaking a → ⊥)
    → ((a : _) → g ≡ doing.Continuing a → ⊥)
    → ((a : _) → g ≡ doing.Defaulting a → ⊥) → ⊥
none_left (doing.Measuring a b) _ n _ _ _ _ _ _ _ _ _ _ _ _ _ _ _ _ _ _ _ _ = n a b refl
none_left (doing.Tagging a b c d) _ _ n _ _ _ _ _ _ _ _ _ _ _ _ _ _ _ _ _ _ _ = n a b c d refl
none_left (doing.Tagged a b c d e) _ _ _ n _ _ _ _ _ _ _ _ _ _ _ _ _ _ _ _ _ _ = n a b c d e refl
none_left (doing.InMembers a b) _ _ _ _ n _ _ _ _ _ _ _ _ _ _ _ _ _ _ _ _ _ = n a b refl
none_left (doing.Enumerating a b) _ _ _ _ _ n _ _ _ _ _ _ _ _ _ _ _ _ _ _ _ _ = n a b refl
none_left (doing.Enumerated a b c) _ _ _ _ _ _ n _ _ _ _ _ _ _ _ _ _ _ _ _ _ _ = n a b c refl
none_left (doing.Entered a b) _ _ _ _ _ _ _ n _ _ _ _ _ _ _ _ _ _ _ _ _ _ = n a b refl
none_left (doing.Entering a b) _ _ _ _ _ _ _ _ n _ _ _ _ _ _ _ _ _ _ _ _ _ = n a b refl
none_left (doing.Qualifying a b c) _ _ _ _ _ _ _ _ _ n _ _ _ _ _ _ _ _ _ _ _ _ = n a b c refl
none_left (doing.Sizing a b c) _ _ _ _ _ _ _ _ _ _ n _ _ _ _ _ _ _ _ _ _ _ = n a b c refl
none_left (doing.InParameters a b c) _ _ _ _ _ _ _ _ _ _ _ n _ _ _ _ _ _ _ _ _ _ = n a b c refl
none_left (doing.Opening a) _ _ _ _ _ _ _ _ _ _ _ _ n _ _ _ _ _ _ _ _ _ = n a refl
none_left (doing.Finishing a) _ _ _ _ _ _ _ _ _ _ _ _ _ n _ _ _ _ _ _ _ _ = n a refl
none_left (doing.Looping a) _ _ _ _ _ _ _ _ _ _ _ _ _ _ n _ _ _ _ _ _ _ = n a refl
none_left (doing.Starting a b) _ _ _ _ _ _ _ _ _ _ _ _ _ _ _ n _ _ _ _ _ _ = n a b refl
none_left (doing.Testing a b c d) _ _ _ _ _ _ _ _ _ _ _ _ _ _ _ _ n _ _ _ _ _ = n a b c d refl
none_left (doing.Stepping a) _ _ _ _ _ _ _ _ _ _ _ _ _ _ _ _ _ n _ _ _ _ = n a refl
none_left (doing.Returning a) _ _ _ _ _ _ _ _ _ _ _ _ _ _ _ _ _ _ n _ _ _ = n a refl
none_left (doing.Breaking a) _ _ _ _ _ _ _ _ _ _ _ _ _ _ _ _ _ _ _ n _ _ = n a refl
none_left (doing.Continuing a) _ _ _ _ _ _ _ _ _ _ _ _ _ _ _ _ _ _ _ _ n _ = n a refl
none_left (doing.Defaulting a) _ _ _ _ _ _ _ _ _ _ _ _ _ _ _ _ _ _ _ _ _ n = n a refl
none_left _ h _ _ _ _ _ _ _ _ _ _ _ _ _ _ _ _ _ _ _ _ _ = h
