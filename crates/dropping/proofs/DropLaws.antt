-- Laws of dropping: where the loop over the records stands, and how a turn goes on.
use Rattle.std.specs.Prelude.{ℕ, zero, suc, ◌+◌, ◌-◌, ◌≤◌, ◌<◌, ◌≡◌, refl, true, false, not}
use Rattle.std.specs.Prelude.{List, [], ◌∷◌, ◌++◌, length, get_or, set, take, drop, replicate}
use Rattle.std.proofs.Common.{sym, ap, ap₂, ◌∙◌, arith}
use Rattle.std.proofs.lemmas.List.{take_more, length-take, length-drop, append_assoc, append-nil, length-append, length-replicate}
use Rattle.std.proofs.Math.Seq.{set_at, get_or_at, append_snoc, drop-cons, take-length, drop-length}
use Rattle.std.proofs.Math.Numerals.{add-one}
use Rattle.basics.specs.Choice.{choice}
use Rattle.basics.specs.Lists.{keep}
use Rattle.basics.proofs.All.{all_at}
use Rattle.basics.proofs.Lists.{keep-le}
use Rattle.basics.proofs.ListMore.{keep_append}
use Rattle.circuit.specs.declared.Gate.{Gate}
use Rattle.simulator.specs.Faulty.{caught}
use Rattle.faults.specs.Records.{no_fault}
use Rattle.faults.specs.Rules.{is_fault}
use Rattle.faults.specs.declared.Fault.{Fault}
use Rattle.dropping.specs.Dropping.{uncaught, dropped}
use Rattle.dropping.specs.Records.{AllFaults}

-- a record that is all zero is the blank one
pub blank_is : (f : Fault) → (f.class ≡ 0) × ((f.place ≡ 0) × ((f.line ≡ 0) × (f.value ≡ 0))) → f ≡ no_fault
unfolding no_fault
blank_is f (c, (p, (l, v))) = λ i. record { class = c i; place = p i; line = l i; value = v i }

-- one blank record more, before what follows
blanks_one : (h : ℕ) (r : List Fault) → replicate h no_fault ++ (no_fault ∷ r) ≡ replicate (suc h) no_fault ++ r
blanks_one zero r = refl
blanks_one (suc h) r = ap (λ l. no_fault ∷ l) (blanks_one h r)

-- what stays of some records, so many blank ones, and others
abbrev held : List Fault → ℕ → List Fault → List Fault
held front blanks rest = front ++ (replicate blanks no_fault ++ rest)

-- before record i the list holds what stays of the records before it, blank records, and the records from it on
pub record Going (gs : List Gate) (x : ℕ) (fs list : List Fault) (left i : ℕ) : Type 0 where
  pub left_is : left ≡ length (uncaught gs x (take i fs))
  pub list_is : list ≡ held (uncaught gs x (take i fs)) (i - left) (drop i fs)

pub start : (gs : List Gate) (x : ℕ) (fs : List Fault) → Going gs x fs fs 0 0
unfolding uncaught keep
start gs x fs = record { left_is = refl; list_is = refl }

module _ {gs : List Gate} {x : ℕ} {fs list : List Fault} {left i : ℕ} (g : Going gs x fs list left i) where
  abbrev front : List Fault
  front = uncaught gs x (take i fs)

  abbrev blanks : List Fault
  blanks = replicate (i - left) no_fault

  pub below : left ≤ i
  unfolding uncaught
  below = omega (arith, g.left_is, keep-le (λ f. not (caught gs f x)) (take i fs), length-take i fs)

  ahead_is : length (front ++ blanks) ≡ i
  ahead_is = omega (arith, below, g.left_is, length-append front blanks, length-replicate (i - left) no_fault)

  parts : list ≡ (front ++ blanks) ++ drop i fs
  parts = g.list_is ∙ sym (append_assoc front blanks (drop i fs))

  pub long : i ≤ length fs → length list ≡ length fs
  long h = omega (arith, ap length parts, ahead_is, length-append (front ++ blanks) (drop i fs), length-drop i fs)

  -- after the last record
  pub done_left : i ≡ length fs → left ≡ length (uncaught gs x fs)
  done_left e = g.left_is ∙ ap (λ k. length (uncaught gs x (take k fs))) e ∙ ap (λ l. length (uncaught gs x l)) (take-length fs)

  pub done_list : i ≡ length fs → list ≡ dropped gs x fs
  unfolding dropped
  done_list e =
      let all : front ≡ uncaught gs x fs = ap (λ k. uncaught gs x (take k fs)) e ∙ ap (uncaught gs x) (take-length fs) in
      let none : drop i fs ≡ [] = ap (λ k. drop k fs) e ∙ drop-length fs in
      let holes : i - left ≡ length fs - length (uncaught gs x fs) = omega (arith, done_left e) in
      g.list_is ∙ ap (held front (i - left)) none ∙ ap (λ l. front ++ l) (append-nil blanks) ∙ ap₂ (λ u k. u ++ replicate k no_fault) all holes

  -- a turn: the record here is still the old one, and it is caught, or stays
  module _ (h : i < length fs) where
    abbrev f : Fault
    f = get_or fs i no_fault

    abbrev rest : List Fault
    rest = drop (i + 1) fs

    parts_here : list ≡ (front ++ blanks) ++ (f ∷ rest)
    parts_here = parts ∙ ap (λ l. (front ++ blanks) ++ l) (drop-cons fs i no_fault h ∙ ap (λ k. f ∷ drop k fs) (sym (add-one i)))

    here : get_or list i no_fault ≡ f
    here = ap (λ l. get_or l i no_fault) parts_here ∙ get_or_at (front ++ blanks) f rest no_fault i ahead_is

    blanked : set list i no_fault ≡ held front (suc (i - left)) rest
    blanked =
        ap (λ l. set l i no_fault) parts_here ∙ set_at (front ++ blanks) f rest no_fault i ahead_is
        ∙ append_assoc front blanks (no_fault ∷ rest) ∙ ap (λ l. front ++ l) (blanks_one (i - left) rest)

    more : uncaught gs x (take (i + 1) fs) ≡ front ++ choice (not (caught gs f x)) (f ∷ []) []
    unfolding uncaught keep
    more = ap (uncaught gs x) (take_more fs i no_fault h) ∙ keep_append (λ y. not (caught gs y x)) (take i fs) (f ∷ [])

    pub fault_here : {now : Fault} (n : ℕ) → now ≡ get_or list i no_fault → AllFaults n gs fs → is_fault n gs now ≡ true
    fault_here n read w = ap (is_fault n gs) (read ∙ here) ∙ all_at (λ y. is_fault n gs y ≡ true) fs i no_fault h w

    -- what the turn read, and what the list and the number are after it
    module _ {now : Fault} {list' : List Fault} {left' : ℕ} (read : now ≡ get_or list i no_fault) where
      pub caught_turn : caught gs now x ≡ true → list' ≡ set list i no_fault → left' ≡ left → Going gs x fs list' left' (i + 1)
      caught_turn e l k =
          let caught_here : caught gs f x ≡ true = ap (λ y. caught gs y x) (sym (read ∙ here)) ∙ e in
          let same : front ≡ uncaught gs x (take (i + 1) fs) = sym (more ∙ rw caught_here (append-nil front)) in
          let holes : suc (i - left) ≡ i + 1 - left' = omega (arith, below, k) in
          record { left_is = k ∙ g.left_is ∙ ap length same; list_is = l ∙ blanked ∙ ap₂ (λ u n. held u n rest) same holes }

      pub stays_turn : caught gs now x ≡ false → list' ≡ set (set list i no_fault) left now → left' ≡ left + 1 → Going gs x fs list' left' (i + 1)
      stays_turn e l k =
          let missed_here : caught gs f x ≡ false = ap (λ y. caught gs y x) (sym (read ∙ here)) ∙ e in
          let longer : front ++ (f ∷ []) ≡ uncaught gs x (take (i + 1) fs) = sym (more ∙ rw missed_here refl) in
          let holes : i - left ≡ i + 1 - left' = omega (arith, k) in
          record {
            left_is = omega (arith, k, g.left_is, ap length longer, length-append front (f ∷ []));
            list_is =
                l ∙ ap (λ y. set (set list i no_fault) left y) (read ∙ here) ∙ ap (λ l. set l left f) blanked
                ∙ set_at front no_fault (blanks ++ rest) f left (sym g.left_is)
                ∙ sym (append_snoc front f (blanks ++ rest)) ∙ ap₂ (λ u n. held u n rest) longer holes;
          }
