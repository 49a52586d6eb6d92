-- Laws of slices that stand in a text: lines, words, and what follows them.
use Rattle.std.proofs.Common.{ℕ, ◌+◌, ◌-◌, ◌≡◌, sym, ap, ◌∙◌, List, [], ◌++◌, length, take, drop, arith}
use Rattle.std.proofs.lemmas.List.{append-nil, append_assoc, take-append-drop, drop-drop, length-drop}
use Rattle.text_words.specs.Runs.{IsFirstLine, IsFirstWord, IsPart}

-- a part of a part
pub part_in : {text middle slice : List ℕ} → IsPart text middle → IsPart middle slice → IsPart text slice
part_in {text} {middle} {slice} p q = record {
  front = p.front ++ q.front;
  back = q.back ++ p.back;
  whole = p.whole ∙ ap (λ l. p.front ++ (l ++ p.back)) q.whole
      ∙ ap (λ l. p.front ++ l) (append_assoc q.front (slice ++ q.back) p.back ∙ ap (λ l. q.front ++ l) (append_assoc slice q.back p.back))
      ∙ sym (append_assoc p.front q.front (slice ++ (q.back ++ p.back)));
}

-- the end of a text
pub end_part : (k : ℕ) {text slice : List ℕ} → slice ≡ drop k text → IsPart text slice
end_part k {text} {slice} e = record {
  front = take k text;
  back = [];
  whole = sym (take-append-drop k text) ∙ ap (λ l. take k text ++ l) (sym e ∙ sym (append-nil slice));
}

-- the end of what is left of a text
pub ends_on : (text : List ℕ) {left rest : List ℕ} → left ≡ drop (length text - length left) text → rest ≡ drop (length left - length rest) left
    → rest ≡ drop (length text - length rest) text
ends_on text {left} {rest} e f =
    let m : length left ≡ length text - (length text - length left) = ap length e ∙ length-drop (length text - length left) text in
    let n : length rest ≡ length left - (length left - length rest) = ap length f ∙ length-drop (length left - length rest) left in
    f ∙ ap (drop (length left - length rest)) e ∙ drop-drop (length left - length rest) (length text - length left) text
    ∙ ap (λ k. drop k text) (omega arith)

pub line_part : {text line rest : List ℕ} → IsFirstLine text line rest → IsPart text line
line_part {text} {line} l = record {
  front = [];
  back = drop (length line) text;
  whole = sym (take-append-drop (length line) text) ∙ ap (λ t. t ++ drop (length line) text) (sym l.starts);
}

module _ {line word rest : List ℕ} (w : IsFirstWord line word rest) where
  abbrev before : List ℕ
  before = take (length line - (length word + length rest)) line

  both : line ≡ before ++ (word ++ rest)
  both = sym (take-append-drop (length line - (length word + length rest)) line) ∙ ap (λ l. before ++ l) (sym w.ends)

  pub word_part : IsPart line word
  word_part = record { front = before; back = rest; whole = both }

  pub rest_part : IsPart line rest
  rest_part = record {
    front = before ++ word;
    back = [];
    whole = both ∙ ap (λ l. before ++ (word ++ l)) (sym (append-nil rest)) ∙ sym (append_assoc before word (rest ++ []));
  }
