-- Derivations in the borrow checker's rules for functions over lent slices of structs: one entry for a statement. Numbers, branches, loops and calls.
-- A `Code` is what code asks of the model before it (`Φ`), with the proof that the code is then typed, in every model of the logic,
-- where the locals have the types tys and the blocks bs; a `Line` is the same of one statement. The table afterwards is computed.
--     Line, Code       a statement, and code with its ways out
--     Elem             a type that is Copy, in a local whole
--     ◌⨾◌, last, then  a statement and what follows; a statement at the end of its part; code with ways out, and what follows
--     free             a local is given up
--     sets, op, branch, skips, exits, returns, turns, calls      the rules for numbers, branches, loops and calls
-- Lending.antt has the rules for slices that are lent, Elements.antt those for their elements. Assumes nothing.
use mathlib.Core.Path.{◌≡◌, refl, sym, subst}
use mathlib.Core.Bool.{Bool}
use mathlib.Core.List.{List, []}
use mathlib.Core.Option.{some}
use Prim.Native.Nat.{ℕ}
use seplogic.Ra.Ura.{Ura}
use lib.Dec.{T}
use mir.Syntax.{Ty, Body, Op2, Callee, call, ty_bool, seq, skip, exit, return, block, loop, assign, place, rv_opd, op2, cond, copy}
use mir.Val.{vbool, has_ty, op2_val}
use prog.Wp.{Tables, spot_of}
use types.Logic.{Logic}
use denote.RattleType.{RattleType, RowLaws}
use denote.Memory.{mem, lone}
use borrow.Table.Elements.{at}
use borrow.Table.OneValue.{One}
use borrow.Table.Copies.{Cp}
use borrow.Table.Row.{Row, Rho, Cx, Sc, Life, get_row, ty_s, val_s}
use borrow.Table.Rows.{sc_here, any_gone, whole}
use borrow.Table.Reads.{ToRoom, ReadsAs, room_gone}
use borrow.Table.Typed as Typed
use borrow.Table.Typed.{Mo, TF, Tf, Outs, Leaves, the, with_next, exit_at, in_block₀, in_block, in_loop₀, at_next, at_exit, at_ret, want_next, LoopBy}
use borrow.Table.Typed.{pass, both, Typed, Stmt, Ghost}
use borrow.Rule.Scalar as Scalar
use borrow.Rule.Scalar.{Oper, op_o, val_o, HasO, After, n_room, Φuse, Φop2, Φcond, reads_Sc, Holds-Sc, room_Sc}
use borrow.Rule.Local as Local
use borrow.Rule.Yields.{Yields, Makes, Yields-copy, Makes-mem}
use borrow.Rule.Slice.Shared.{by_size}
use borrow.Rule.Token.Call.{HasH}
use borrow.Fn.Frame.{EnvOf}
use borrow.Fn.Kinds.{ParamKind, ResultKind, In, Out, DestOk, ty_rc}
use borrow.Fn.Args.{ArgsT, outs_m, ops_v, Has}
use borrow.Fn.Call.{call_b, Γafter, SubOk, sub_id}
use borrow.Fn.Plain.{Known, t_call_plain}

-- a model of the logic, with the tables of calls and loops
pub record Model : Type 2 where
  pub M : Type 1
  pub 𝓤 : Ura M
  pub 𝓛 : Logic 𝓤
  pub 𝓣 : Tables 𝓤 𝓛.H

-- what stands in a row can be given up, as room for the type τ
abbrev pub Room : Row → Ty → Type 2
Room r τ = (w : Model) → ToRoom w.𝓛 r τ

abbrev pub gone : (τ : Ty) → Room (any_gone τ) τ
gone τ w = room_gone w.𝓛 τ

abbrev pub held : (σ : Sc) → Room (sc_here σ) (ty_s σ)
held σ w = room_Sc w.𝓛 σ

pub record Line (tys : List Ty) (bs : List ℕ) (Kn : Model → Type 1) (Γ : Cx) (b : Body) (Γ₁ : Cx) : Type 3 where
  pub φ : Tf Γ Γ₁
  pub ok : (w : Model) → Kn w → Stmt w.𝓛 w.𝓣 (EnvOf w.𝓛 tys bs) Γ b Γ₁ φ

pub record Code (tys : List Ty) (bs : List ℕ) (Kn : Model → Type 1) (Γ : Cx) (b : Body) (Δ : Outs) : Type 3 where
  pub Φ : TF Γ Δ
  pub ok : (w : Model) → Kn w → Typed w.𝓛 w.𝓣 (EnvOf w.𝓛 tys bs) Γ b Δ Φ

-- an operand, with the proof that it can be read
pub record Opnd (tys : List Ty) (bs : List ℕ) (Γ : Cx) : Type 2 where
  pub x : Oper Γ.locals
  pub has : (w : Model) → HasO w.𝓛 (EnvOf w.𝓛 tys bs) Γ.locals x

-- the local at n is declared with the type τ
abbrev pub Spot : List Ty → List ℕ → Cx → ℕ → Ty → Type 2
Spot tys bs Γ n τ = (w : Model) → (spot_of w.𝓤 w.𝓛.H (EnvOf w.𝓛 tys bs) (get_row n Γ.locals).0).0 ≡ τ

abbrev pub reads : (σ : Sc) (w : Model) → ReadsAs w.𝓛 (sc_here σ) (ty_s σ) (val_s σ)
reads σ w = reads_Sc w.𝓛 σ

-- a type R of one machine value that is Copy, whole in its local, with the laws of what a `&` to it holds: dv is what a read past a list's
-- end would give, which is never read, and `places` says where element i lies
pub record Elem : Type 2 where
  pub R : RattleType
  pub laws : RowLaws R
  pub one : One R
  pub cp : Cp R
  pub dv : R.Denot
  pub size : ℕ
  pub places : (i o : ℕ) → at o (mem R).size i ≡ by_size size i o

abbrev pub ty : Elem → Ty
ty T = lone T.R.mir

abbrev pub let_go : (T : Elem) → Room (whole T.R) (ty T)
let_go T w = Local.room_whole w.𝓛 T.R (ty T) refl

pub yields : (T : Elem) (w : Model) → Yields w.𝓛 (λ (ρ : Rho). Unit {0}) (ty T) (whole T.R) (whole T.R) T.R
    (λ x. x) (λ x. x)
yields T w =
    Yields-copy w.𝓛 (λ (ρ : Rho). Unit {0}) T.R T.one (T.cp.copy w.𝓛)
    (whole T.R) (λ x. x) (λ x. x) (λ ρ told. Local.mem_whole w.𝓛 T.R ρ)
    (λ ρ told. Local.whole_mem w.𝓛 T.R ρ)

pub makes : (T : Elem) (w : Model) → Makes w.𝓛 (λ (ρ : Rho). Unit {0}) (ty T) (whole T.R) T.R (λ x. x)
makes T w = Makes-mem w.𝓛 (λ (ρ : Rho). Unit {0}) T.R T.one (whole T.R) (λ x. x)
    (λ ρ told. Local.whole_mem w.𝓛 T.R ρ)

abbrev pub Knows : (n : ℕ) (ps : List (ParamKind n)) (r : ResultKind n) → In n ps → Out n ps r → Callee → Model → Type 1
Knows n ps r P Q f w = Known w.𝓛 w.𝓣 n ps r P Q f

-- each argument of a call stands at the slot that its type names
abbrev pub same_slots : (S : List Life) (w : Model) → SubOk w.𝓛 (λ pos β. β) S
same_slots S w = sub_id w.𝓛 S

module _ {tys : List Ty} {bs : List ℕ} {Kn : Model → Type 1} where
  abbrev pub ◌⨾◌ : {Γ Γ₁ : Cx} {a b : Body} {Δ : Outs} → Line tys bs Kn Γ a Γ₁ → Code tys bs Kn Γ₁ b Δ → Code tys bs Kn Γ (seq a b) Δ
  ◌⨾◌ {Γ} {Γ₁} {a} {b} {Δ} l c = record {
    Φ = λ Ψ. l.φ (c.Φ Ψ);
    ok = λ w k. Typed.s_seq w.𝓛 w.𝓣
        (EnvOf w.𝓛 tys bs) Γ Γ₁ a b Δ l.φ c.Φ (l.ok w k) (c.ok w k);
  }

  abbrev pub last : {Γ : Cx} {a : Body} {Δ : Outs} → Leaves Δ.next → Line tys bs Kn Γ a (the Δ.next) → Code tys bs Kn Γ a Δ
  last {Γ} {a} {Δ} e l = record {
    Φ = λ Ψ. l.φ (at_next Δ Ψ);
    ok = λ w k. Typed.s_Typed w.𝓛 w.𝓣
        (EnvOf w.𝓛 tys bs) Γ a Δ l.φ e (l.ok w k);
  }

  abbrev pub then : {Γ Γ₁ : Cx} {a b : Body} {Δ : Outs} → Code tys bs Kn Γ a (with_next (some Γ₁) Δ) → Code tys bs Kn Γ₁ b Δ → Code tys bs
      Kn Γ (seq a b) Δ
  then {Γ} {Γ₁} {a} {b} {Δ} c d = record {
    Φ = λ Ψ. c.Φ (want_next Γ₁ Δ (d.Φ Ψ) Ψ);
    ok = λ w k. Typed.t_seq w.𝓛
        w.𝓣 (EnvOf w.𝓛 tys bs) Γ Γ₁ a b Δ c.Φ d.Φ (c.ok w k) (d.ok w k);
  }

  abbrev pub free : {Γ : Cx} {b : Body} {Δ : Outs} (n : ℕ) (τ : Ty) → Room (get_row n Γ.locals).1 τ → Code tys bs Kn
      (After Γ n (any_gone τ)) b Δ → Code tys bs Kn Γ b Δ
  free {Γ} {b} {Δ} n τ r c = record {
    Φ = λ Ψ. pass Γ (After Γ n (any_gone τ)) (n_room Γ n τ) (c.Φ Ψ);
    ok = λ w k. Typed.g_pre_lem w.𝓛 w.𝓣 (EnvOf w.𝓛 tys bs) Γ (After Γ n (any_gone τ)) b Δ
        (pass Γ (After Γ n (any_gone τ)) (n_room Γ n τ)) c.Φ (Scalar.g_room w.𝓛 (EnvOf w.𝓛 tys bs) Γ n
        τ (r w)) (c.ok w k);
  }

  -- a step that no statement makes, before code
  abbrev pub step_by : {Γ Γ₁ : Cx} {b : Body} {Δ : Outs} (φ : Tf Γ Γ₁) →
      ((w : Model) → Kn w → Ghost w.𝓛 (EnvOf w.𝓛 tys bs) Γ Γ₁ φ) → Code tys bs Kn Γ₁ b Δ → Code tys bs Kn Γ b Δ
  step_by {Γ} {Γ₁} {b} {Δ} φ ok c = record {
    Φ = λ Ψ. φ (c.Φ Ψ);
    ok = λ w k. Typed.g_pre_lem w.𝓛 w.𝓣
        (EnvOf w.𝓛 tys bs) Γ Γ₁ b Δ φ c.Φ (ok w k) (c.ok w k);
  }

  abbrev pub skips : {Δ : Outs} → Leaves Δ.next → Code tys bs Kn (the Δ.next) skip Δ
  skips {Δ} e = record { Φ = at_next Δ; ok = λ w k. Typed.t_skip w.𝓛 w.𝓣 (EnvOf w.𝓛 tys bs) Δ e }

  abbrev pub exits : {Δ : Outs} (n : ℕ) → Leaves (exit_at n Δ) → Code tys bs Kn (the (exit_at n Δ)) (exit n) Δ
  exits {Δ} n e = record { Φ = at_exit n Δ; ok = λ w k. Typed.t_exit w.𝓛 w.𝓣 (EnvOf w.𝓛 tys bs) n Δ e }

  abbrev pub returns : {Δ : Outs} → Leaves Δ.returns → Code tys bs Kn (the Δ.returns) return Δ
  returns {Δ} e = record { Φ = at_ret Δ; ok = λ w k. Typed.t_return w.𝓛 w.𝓣 (EnvOf w.𝓛 tys bs) Δ e }

  module _ {Γ : Cx} (nd : ℕ) (σ : Sc) (room : Room (get_row nd Γ.locals).1 (ty_s σ)) (spot : Spot tys bs Γ nd (ty_s σ)) where
    abbrev pub sets : (o : Opnd tys bs Γ) → ((u : Mo Γ) → val_s σ (σ.of (val_o Γ.locals o.x u)) ≡ val_o Γ.locals o.x u) →
        ((u : Mo Γ) → T (has_ty (ty_s σ) (val_o Γ.locals o.x u)))
        → Line tys bs Kn Γ (assign (place (get_row nd Γ.locals).0 []) (rv_opd (op_o Γ.locals o.x))) (After Γ nd (sc_here σ))
    sets o e t = record {
      φ = Φuse Γ o.x nd (sc_here σ) σ.of;
      ok = λ w k. Scalar.t_use w.𝓛
          (EnvOf w.𝓛 tys bs) w.𝓣 Γ o.x nd (sc_here σ) (ty_s σ) (val_s σ) σ.of (o.has w) (room w)
          (Holds-Sc w.𝓛 σ) (spot w) e t;
    }

    abbrev pub op : (o : Op2) (a b : Opnd tys bs Γ) → ((u : Mo Γ) → val_s σ
        (σ.of (op2_val o (val_o Γ.locals a.x u) (val_o Γ.locals b.x u))) ≡ op2_val o (val_o Γ.locals a.x u)
        (val_o Γ.locals b.x u))
        → ((u : Mo Γ) → T (has_ty (ty_s σ) (op2_val o (val_o Γ.locals a.x u) (val_o Γ.locals b.x u))))
        → Line tys bs Kn Γ (assign (place (get_row nd Γ.locals).0 []) (op2 o (op_o Γ.locals a.x) (op_o Γ.locals b.x)))
        (After Γ nd (sc_here σ))
    op o a b e t = record {
      φ = Φop2 Γ o a.x b.x nd (sc_here σ) σ.of;
      ok = λ w k. Scalar.t_op2 w.𝓛
          (EnvOf w.𝓛 tys bs) w.𝓣 Γ o a.x b.x nd (sc_here σ) (ty_s σ) (val_s σ) σ.of (a.has w) (b.has w) (room w)
          (Holds-Sc w.𝓛 σ) (spot w) e t;
    }

  -- a branch on the bool in the local at nc
  abbrev pub branch : {Γ : Cx} {a b : Body} {Δ : Outs} (nc : ℕ) (t : (get_row nc Γ.locals).1.Mod → Bool) →
      ((w : Model) → ReadsAs w.𝓛 (get_row nc Γ.locals).1 ty_bool (λ x. vbool (t x))) → Spot tys bs Γ nc ty_bool
      → Code tys bs Kn Γ a Δ → Code tys bs Kn Γ b Δ → Code tys bs Kn Γ (cond (copy (place (get_row nc Γ.locals).0 [])) a b) Δ
  branch {Γ} {a} {b} {Δ} nc t rd spot c d = record {
    Φ = Φcond Γ Δ nc t c.Φ d.Φ;
    ok = λ w k. Scalar.t_cond w.𝓛 (EnvOf w.𝓛 tys bs) w.𝓣 Γ nc t a b Δ c.Φ d.Φ (rd w) (spot w)
        (c.ok w k) (d.ok w k);
  }

  -- a loop in its block: the values Vs that a turn may change, the invariant and the measure
  abbrev pub turns : {Hd : Cx} {b : Body} {Δ : Outs} {Vs : Type 0} (put : Vs → Mo Hd → Mo Hd) (I : Mo Hd → Vs → Type 0)
      (μ : Mo Hd → Vs → ℕ) → Code tys bs Kn Hd b (in_loop₀ Hd (in_block₀ Δ)) → Code tys bs Kn Hd (block (loop b)) Δ
  turns {Hd} {b} {Δ} put I μ c = record {
    Φ = λ Ψ. LoopBy Hd (in_block₀ Δ) put I μ c.Φ (in_block Δ Ψ);
    ok = λ w k. Typed.t_block w.𝓛 w.𝓣 (EnvOf w.𝓛 tys bs) Hd (loop b) Δ
        (LoopBy Hd (in_block₀ Δ) put I μ c.Φ) (Typed.t_loop_by w.𝓛 w.𝓣 (EnvOf w.𝓛 tys bs) Hd b
        (in_block₀ Δ) put I μ c.Φ (c.ok w k));
  }

  -- a call. βs has the caller's slot of each lifetime of the callee, and σ says at which slot an argument stands
  abbrev pub calls : {n : ℕ} (ps : List (ParamKind n)) (r : ResultKind n) (P : In n ps) (Q : Out n ps r) (f : Callee) →
      ((w : Model) → Kn w → Known w.𝓛 w.𝓣 n ps r P Q f) → (σ : ℕ → ℕ → ℕ) (βs : List ℕ)
      → {Γ : Cx} (ar : ArgsT ps Γ.locals) (nd : ℕ) (τ : Ty) → ((w : Model) → (spot_of w.𝓤 w.𝓛.H (EnvOf w.𝓛 tys bs)
      (get_row nd (outs_m ps Γ.locals ar)).0).0 ≡ τ) → ((w : Model) → SubOk w.𝓛 σ Γ.slots)
      → ((w : Model) → Has w.𝓛 (EnvOf w.𝓛 tys bs) n βs σ ps Γ.locals ar) → Room
      (get_row nd (outs_m ps Γ.locals ar)).1 (ty_rc r τ) → HasH n βs Γ.slots → DestOk r βs τ
      → Line tys bs Kn Γ (call f (ops_v ps Γ.locals ar) (place (get_row nd (outs_m ps Γ.locals ar)).0 [])) (Γafter ps r Γ ar nd βs τ)
  calls {n} ps r P Q f known σ βs {Γ} ar nd τ spot sub has room hash dest = record {
    φ = both (call_b ps r P Q Γ ar nd βs τ);
    ok = λ w k.
        subst (λ (t : Ty). Stmt w.𝓛 w.𝓣 (EnvOf w.𝓛 tys bs) Γ
        (call f (ops_v ps Γ.locals ar) (place (get_row nd (outs_m ps Γ.locals ar)).0 [])) (Γafter ps r Γ ar nd βs t)
        (both (call_b ps r P Q Γ ar nd βs t))) (spot w)
        (t_call_plain w.𝓛 w.𝓣 n ps r P Q f (known w k) (EnvOf w.𝓛 tys bs) σ Γ ar nd βs (sub w) (has w)
        (subst (λ (t : Ty). ToRoom w.𝓛 (get_row nd (outs_m ps Γ.locals ar)).1 (ty_rc r t)) (sym (spot w)) (room w)) hash
        (subst (λ (t : Ty). DestOk r βs t) (sym (spot w)) dest));
  }
