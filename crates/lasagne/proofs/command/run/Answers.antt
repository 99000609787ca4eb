use Rattle.std.proofs.Common.{◌≡◌, ◌∙◌, ap, sym, List, ℕ, [], ◌∷◌, inl}
use Rattle.std.specs.Prelude.{codes}
use Rattle.lasagne.specs.Shape.{Translate, Plan, Try, words_of}
use Rattle.lasagne.proofs.Endings.{two, three}
use Rattle.lasagne.proofs.command.run.Goals as goal

pub returns-in-len2 : goal.returns-in-len2
returns-in-len2 g c =
    let words : c.args.words.now ≡ c.verb-item.result ∷ c.from-item.result ∷ [] =
    two c.args.words.now _ _ c.in-len2.len_at_least c.in-len2.len_below c.verb-item.is c.from-item.is in
    let shape : c.args.words.now ≡ words_of (Plan c.as_str.result.now) =
    words ∙ ap (λ (verb : List ℕ). verb ∷ c.from-item.result ∷ []) c.if-is_plan.ensures
    ∙ ap (λ (from : List ℕ). codes "plan" ∷ from ∷ []) (sym c.as_str.ensures) in
    inl (Plan c.as_str.result.now, shape, c.plan_command.ensures)

pub returns-in-len3 : goal.returns-in-len3
returns-in-len3 g c =
    let words : c.args.words.now ≡ c.verb-item-then-words-lt4.result ∷ c.from-item-then-words-lt4.result ∷ c.to-item.result ∷ [] =
    three c.args.words.now _ _ _ c.in-len3.len_at_least c.in-len3.len_below c.verb-item-then-words-lt4.is c.from-item-then-words-lt4.is c.to-item.is in
    let shape : c.args.words.now ≡ words_of (Translate c.as_str-in-len3.result.now c.as_str-in-len3-2.result.now) =
    words ∙ ap (λ (verb : List ℕ). verb ∷ c.from-item-then-words-lt4.result ∷ c.to-item.result ∷ []) c.if-is_translate.ensures
    ∙ ap (λ (from : List ℕ). codes "translate" ∷ from ∷ c.to-item.result ∷ []) (sym c.as_str-in-len3.ensures)
    ∙ ap (λ (to : List ℕ). codes "translate" ∷ c.as_str-in-len3.result.now ∷ to ∷ []) (sym c.as_str-in-len3-2.ensures) in
    inl (Translate c.as_str-in-len3.result.now c.as_str-in-len3-2.result.now, shape, c.translate_command.ensures)

pub returns-in-Some : goal.returns-in-Some
returns-in-Some g c =
    let words : c.args.words.now ≡ c.verb-item-then-words-lt3.result ∷ c.number-item.result ∷ [] =
    two c.args.words.now _ _ c.in-len2.len_at_least c.in-len2.len_below c.verb-item-then-words-lt3.is c.number-item.is in
    let rounds = c.in-Some.ensures in
    let shape : c.args.words.now ≡ words_of (Try c.in-Some.rounds rounds.0) =
    words ∙ ap (λ (verb : List ℕ). verb ∷ c.number-item.result ∷ []) c.if-is_try.ensures ∙ ap (λ (number : List ℕ). codes "try" ∷ number ∷ []) rounds.1 in
    inl (Try c.in-Some.rounds rounds.0, shape, c.try_command.ensures)
