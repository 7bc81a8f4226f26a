use Rattle.std.proofs.Common.{◌∙◌, ap, codes, map, string_bytes, List, ℕ}
use Rattle.std.proofs.lemmas.Result.{IfErr-weaker, IfOk-weaker}
use Rattle.std.specs.Borrow.{Bor}
use Rattle.clap.specs.Simple.{is_simple, matches_of}
use Rattle.clap.specs.Takes.{takes}
use Rattle.dae_cli_settings.proofs.Reading.{parts_taken, reads}
use Rattle.dae_cli_settings.proofs.Rules.{simple_app}
use Rattle.dae_cli_settings.proofs.matching.matches_of.Goals as goal

pub returns-clause-options : goal.returns-clause-options
returns-clause-options c =
    IfOk-weaker c.try_get_matches_from.result _ _ (λ m h ss files parts.
    reads m _ _ ss files c.requires.names parts
    ((h (ap is_simple c.in_ok-command.ensures ∙ simple_app (codes "job") (map (λ (n : Bor (List ℕ)). n.now) c.args.names.now))).0 ∙ ap (λ a. matches_of a (map string_bytes c.args.words.now)) c.in_ok-command.ensures))
    c.try_get_matches_from.ensures.matches

pub returns-clause-err : goal.returns-clause-err
returns-clause-err c =
    IfErr-weaker c.try_get_matches_from.result _ _ (λ e h.
    h (ap (λ a. takes a (map string_bytes c.args.words.now)) c.in_ok-command.ensures
    ∙ parts_taken _ _ c.requires.parts.0 c.requires.parts.1 c.requires.names c.requires.parts.2))
    c.try_get_matches_from.ensures.passes
