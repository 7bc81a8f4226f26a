-- What a piece becomes that is no word, and so is never replaced.
use Rattle.std.proofs.Common.{◌≡◌, ℕ, true, false, not, List, [], ◌∷◌, None, ap, sym, ◌∙◌, refl, if◌then◌else◌, ◌&&◌, Ok}
use Rattle.std.specs.List.{list_any}
use Rattle.std.specs.Str.{bytes_eq}
use Rattle.dae_tree.specs.declared.pieces.PieceKind.{PieceKind}
use Rattle.dae_tree.specs.declared.pieces.PieceKind.TheVariants as kinds
use Rattle.dae_tree.specs.Pieces.{Cut}
use Rattle.dae_tree.specs.Directives.{is_blank_kind}
use Rattle.dae_tree.specs.Replacing.{Definition, taken, body_of, expand, is_word_kind, items_by, replacement}
use Rattle.dae_lex.specs.declared.output.Meaning.{Meaning as Meant}
use Rattle.dae_lex.specs.Settling.{IsFixed, meaning_of}
use Rattle.dae_lex.proofs.Turns.{expand_none}

module _ (n : ℕ) (ms : List Definition) (p : Cut) where
  stays_by : is_word_kind p.kind ≡ false → replacement ms [] p ≡ None
  stays_by e = ap (λ b. if b && not (list_any (bytes_eq p.spelling) []) then body_of ms p.spelling else None) e

  becomes : (kind : PieceKind) → p.kind ≡ kind → is_word_kind kind ≡ false → expand n ms [] p p ≡ items_by kind p p
  becomes kind e h = expand_none ms p n [] p (stays_by (ap is_word_kind e ∙ h)) ∙ ap (λ k. items_by k p p) e

  pub blank_gives : (kind : PieceKind) → p.kind ≡ kind → is_blank_kind kind ≡ true → expand n ms [] p p ≡ []
  blank_gives kinds.Blank e h = becomes kinds.Blank e refl
  blank_gives _ e h = absurd (cc)

  pub fixed_gives : (kind : PieceKind) (m : Meant) → p.kind ≡ kind → IsFixed kind m → expand n ms [] p p ≡ taken (Ok (meaning_of m)) p ∷ []
  fixed_gives (kinds.Constant c) m e h = becomes (kinds.Constant c) e refl ∙ ap (λ k. taken (Ok (meaning_of k)) p ∷ []) (sym h)
  fixed_gives (kinds.Mark s) m e h = becomes (kinds.Mark s) e refl ∙ ap (λ k. taken (Ok (meaning_of k)) p ∷ []) (sym h)
  fixed_gives _ m e h = absurd h
