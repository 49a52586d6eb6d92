-- What the reading of a gate's words tells.
use Rattle.std.specs.Prelude.{ℕ, ◌≤◌, ◌≡◌, Bool, true, false, ◌&&◌, Option, MatchOption, List, [], ◌∷◌, length, take, drop}
use Rattle.text.specs.Texts.{every, among, distinct}
use Rattle.real.specs.Form.{Word, controls_of, mask_of, gate_of}
use Rattle.real_gates.specs.declared.Gate.{Gate}

-- each is declared, and none stands twice
abbrev pub are_controls : List Word → List Word → Bool
are_controls names words = every (λ w. among w names) words && distinct words

-- the first of some words, so many, as controls: their mask, and the words after them
pub record Masked (names words : List Word) (wanted mask : ℕ) (left : List Word) : Type 0 where
  pub rest : left ≡ drop wanted words
  pub right : are_controls names (take wanted words) ≡ true
  pub is : mask ≡ mask_of names (take wanted words)

-- the words of a gate after its token: each is declared, no control stands twice
abbrev pub are_gate : List Word → List Word → Bool
are_gate names words = every (λ w. among w names) words && distinct (controls_of words)

-- a gate is told by its words; of a circuit with more than 32 lines it is not
pub record IsGate (names words : List Word) (gate : Gate) : Type 0 where
  pub right : are_gate names words ≡ true
  pub is : length names ≤ 32 → gate_of names words ≡ gate.controls ∷ 0 ∷ gate.target ∷ []

abbrev pub GateRead : List Word → List Word → Option Gate → Type 0
GateRead names words read = MatchOption read (are_gate names words ≡ false) (IsGate names words)

-- some words read as controls: their mask, where the words after them are left
abbrev pub ControlsRead : List Word → List Word → ℕ → Option ℕ → List Word → Type 0
ControlsRead names words wanted read left =
    MatchOption read (are_controls names (take wanted words) ≡ false) (λ mask. Masked names words wanted mask left)
