use Rattle.std.proofs.Common.{◌≡◌, ◌+◌, ◌<◌, ℕ, List, [], ◌∷◌, ◌++◌, take, length, Some, sym, ap, ◌∙◌, arith}
use Rattle.std.specs.Prelude.{slice_get}
use Rattle.std.proofs.lemmas.List.{take_more}
use Rattle.std.proofs.lemmas.Option.{slice_get_within, get_or_from_slice_get}
use Rattle.fr_grammar.proofs.program.copy_names.Goals as goal

-- one name more
more : (names : List (List ℕ)) (at : ℕ) (text : List ℕ) (old new : List (List ℕ)) → old ≡ take at names → slice_get names at ≡ Some text → new ≡ old ++ text ∷ [] → (new ≡ take (at + 1) names) × (at < length names)
more names at text old new before here pushed =
    let within = slice_get_within names at text here in
    (pushed ∙ ap (λ l. l ++ text ∷ []) before ∙ ap (λ x. take at names ++ x ∷ []) (sym (get_or_from_slice_get names at text [] here)) ∙ sym (take_more names at [] within), within)

pub each-preserved : goal.each-preserved
each-preserved c =
    let step = more c.args.tokens.now.names c.each.no c.in-Some.name.now _ _ c.each.invariant.names (sym c.in-Some.ensures) c.in_ok-add_name.ensures.names in
    record { names = step.0; within = omega (arith, step.1); meanings = c.in_ok-add_name.ensures.meanings ∙ c.each.invariant.meanings }
