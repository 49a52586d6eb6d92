-- Laws of the token of a gate, one for each outcome of its reading.
use Rattle.std.specs.Prelude.{ℕ, ◌≤◌, ◌≡◌, refl, Bool, true, false, ◌&&◌, Some, None, List, [], ◌∷◌, ◌++◌, length, take, drop, eqb, leb}
use Rattle.std.specs.Bool.{then_some}
use Rattle.std.proofs.Common.{sym, ap, ◌∙◌}
use Rattle.std.proofs.lemmas.Bool.{leb-true, false≢true}
use Rattle.std.proofs.lemmas.Option.{none-some, same_Some}
use lib.Pointwise.{pointwise}
use Rattle.basics.proofs.Tests.{by_test, and-true, and_both, and_left, and_right, choice-true, choice-false}
use Rattle.basics.specs.Choice.{choice}
use Rattle.text.specs.Texts.{ascii, same}
use Rattle.text.specs.Decimal.{decimal}
use Rattle.real.specs.Form.{Word}
use Rattle.real_gates.specs.Tokens.{is_token, token_of}

-- the letter t (116)
abbrev pub letter : Word
letter = 116 ∷ []

same_from : (token number : Word) → pointwise eqb (take 1 token) letter ≡ false → same token (ascii "t" ++ number) ≡ false
unfolding ascii same
same_from [] number e = refl
same_from (b ∷ token) number e = by_test (eqb b 116) (λ t. absurd (false≢true (sym e ∙ and-true t refl))) (λ f. and_left (same token number) f)

same_after : (token number : Word) → pointwise eqb (take 1 token) letter ≡ true → same token (ascii "t" ++ number) ≡ same (drop 1 token) number
unfolding ascii same
same_after [] number e = absurd (false≢true e)
same_after (b ∷ token) number e = ap (λ t. t && same token number) (and_both (eqb b 116) true e).0

then_some_is : {A : Type 0} (b : Bool) (a : A) → then_some b a ≡ choice b (Some a) None
then_some_is true a = refl
then_some_is false a = refl

module _ (token : Word) (words : List Word) where
  -- ---- read

  pub token_other : pointwise eqb (take 1 token) letter ≡ false → None ≡ token_of token words
  unfolding token_of
  token_other e = sym (choice-false (and_right (leb 1 (length words)) (same_from token (decimal (length words)) e)) _ _)

  pub token_told : (number : Word) → pointwise eqb (take 1 token) letter ≡ true → number ≡ drop 1 token → (told : Bool)
      → told ≡ (leb 1 (length words) && same number (decimal (length words))) → then_some told (length words) ≡ token_of token words
  unfolding token_of
  token_told number e n told t =
      let is : told ≡ is_token token words =
      t ∙ ap (λ u. leb 1 (length words) && same u (decimal (length words))) n
      ∙ ap (λ b. leb 1 (length words) && b) (sym (same_after token (decimal (length words)) e)) in
      rw is (then_some_is (is_token token words) (length words))

  -- ---- told

  pub token_lines : (count : ℕ) → Some count ≡ token_of token words → (is_token token words ≡ true) × (count ≡ length words)
  unfolding token_of
  token_lines count e = by_test (is_token token words)
      (λ t. (t, same_Some count (length words) (e ∙ choice-true t _ _)))
      (λ t. absurd (none-some count (sym (e ∙ choice-false t _ _))))

  pub token_unread : None ≡ token_of token words → is_token token words ≡ false
  unfolding token_of
  token_unread e = by_test (is_token token words)
      (λ t. absurd (none-some (length words) (e ∙ choice-true t _ _)))
      (λ t. t)

  pub token_least : is_token token words ≡ true → 1 ≤ length words
  token_least e = leb-true 1 (length words) (and_both (leb 1 (length words)) (same token (ascii "t" ++ decimal (length words))) e).0
