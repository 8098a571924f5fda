-- Functions that make a struct without fields, whose ghost fields the caller's proof picks. Assumes `Logic`.
-- Functions that make a struct without bytes, whose ghost fields the caller's proof picks. Assumes `Logic`.
use Rattle.std.proofs.Common.{List, [], ◌∷◌, ◌++◌, refl}
use seplogic.Ra.Ura.{Ura}
use mir.Syntax.{Fn, Sym, a_type, aggregate, assign, imm, local, named, place, return, seq, tnil, ty_named, ty_param, ty_ref, ty_struct, value_local}
use mir.Val.{Val, vptr, vstruct, vnil}
use mir.MapTy.{inst_fn}
use base.Logic.{SProp, ent, emp, via, fst∗}
use prog.Model.{Model}
use prog.Routine.{Callee}
use prog.Wp.{Calls, Closed, Loops, WpFn, Tables}
use contract.Lifetimes.{Lfts, Outlives}
use contract.Monad.{fact}
use contract.Running.{Running, tables, tables_of}
use sound.WpLaws.{WpFn-mono}
use types.Logic.{Logic}
use types.Kit.{‵, raw, ◌⊛◌, prop, ◌$◌, ◌∵◌, !, qed, move, keep, drop, split, fsplit, fjoin, feq_l, regoal, suffices, done}
use types.Run.{no_more, returns, enter}
use types.Part.{agg}
use types.ByLocal.{alloc_all, pass_all, free_all, look_at, sets}
use denote.Exit.{yes}
use denote.RattleType.{RattleType, owns}
use denote.Builtin.{One, RefOf}
use denote.Param.{param, layouts}
use denote.Shadow.{Pure, pure_i, shadow}
use denote.Signature.{Slot, plain, types_at}
use denote.Steps.{nothing}
use denote.Triple.Clauses.{Clauses, Ended, closing}
use denote.Triple.Entry.{Args, on_entry, alive}
use denote.Triple.Spec.{Meets, triple_of}
use denote.Triple.Statement.{Triple}
use denote.Triple.Table.{entered}
use denote.Triple.Walked.{says, Stays, stay_dropped, walk_of, ends_at, walked, walk_Meets, Goes-dropped}

-- a function without parameters, which returns a struct of this name that has no fields
abbrev pub empty_struct : Sym → Fn
empty_struct name = record {
  lifetimes = 0;
  outlives = [];
  ty_params = [];
  givens = 0;
  params = 0;
  locals = local (ty_struct name tnil) value_local ∷ [];
  body = seq (assign (place 0 []) (aggregate [])) return;
}

-- its signature
abbrev pub ended : RattleType → Ended
ended row = record { signature = record { lifetimes = 0; outlives = []; params = []; result = plain (λ _. row) }; kept = tt }

-- its contract, which says `Holds` of a ghost that the caller's proof picks and of what is returned
module _ (row : RattleType) (name : Sym) (Ghost : Type 0) (Holds : Ghost → row.Denot → Type 0) (made : Ghost → row.Denot)
    (holds : (g : Ghost) → Holds g (made g)) (pure : (g : Ghost) → Pure (row.own_val (made g) (vstruct vnil ∷ [])))
    (shown : (g : Ghost) → shadow (row.own_val (made g) (vstruct vnil ∷ []))) {M : Type 1} {𝓤 : Ura M} (𝓛 : Logic 𝓤) where
  open 𝓛 use {H}

  abbrev clauses : Clauses 𝓤 (ended row)
  clauses κs a = record { ghost = Ghost; requires = λ g. emp 𝓤; ensures = λ g r e. fact 𝓤 (Holds g r) }

  module _ (C : Calls 𝓤 H) (Λ : Loops 𝓤 H) (g : Ghost) where
    abbrev bound : (walk_of 𝓛 (ended row) tt clauses).Ghost
    bound = ((tt, tt, tt, tt, tt), g)

    walk : ent 𝓤 (on_entry 𝓛 (ended row).signature tt tt tt tt) (WpFn 𝓤 H C Λ (empty_struct name) [] ((walk_of 𝓛 (ended row) tt clauses).post bound))
    walk =
        qed 𝓛 (raw (alive 𝓛 (ended row).signature tt tt) ∷ ‵ (owns [] tt tt) ∷ []) ∵ enter ! C Λ (empty_struct name) [] _ $
        alloc_all ! (λ l. pass_all ! refl tt $ sets ! (agg ! (no_more !)) refl (tt, tt) $
        returns ! (look_at ! 0 refl) $ free_all ! refl $
        suffices ! _ (ends_at 𝓛 (ended row) tt clauses bound (vstruct vnil) (made g) tt tt) $
        says ! (holds g) $ pure_i ! (row.own_val (made g) (vstruct vnil ∷ [])) (pure g) (shown g) $
        move ! (1 ∷ 2 ∷ 0 ∷ []) $ done !)

  meets : (𝓣 : Tables 𝓤 H) → Meets 𝓛 (ended row).signature (WpFn 𝓤 H 𝓣.C 𝓣.Λ (empty_struct name)) (closing 𝓛 (ended row) clauses)
  meets 𝓣 =
      walk_Meets 𝓛 (ended row) tt tt clauses (WpFn 𝓤 H 𝓣.C 𝓣.Λ (empty_struct name)) (WpFn-mono 𝓤 H 𝓛.laws 𝓣 (empty_struct name))
      (walked 𝓛 (ended row) tt clauses (WpFn 𝓤 H 𝓣.C 𝓣.Λ (empty_struct name)) (λ κs. tt) (λ κs. tt)
      (λ κs qs bounds a g are. via 𝓤 _ (fst∗ 𝓤 _ (emp 𝓤)) (walk 𝓣.C 𝓣.Λ g)))

  pub met : (𝓜 : Model 𝓤 H) (𝓡 : Running 𝓤 H 𝓜) (key : Callee)
      → Closed 𝓤 H (tables 𝓤 H 𝓜 𝓡 𝓡.env).C (tables 𝓤 H 𝓜 𝓡 𝓡.env).Λ key (empty_struct name)
      → Triple 𝓤 ((tables 𝓤 H 𝓜 𝓡 𝓡.env).C key) (triple_of 𝓛 (ended row).signature (closing 𝓛 (ended row) clauses))
  unfolding tables_of
  met 𝓜 𝓡 key closed =
      let 𝓣 : Tables 𝓤 H = tables_of 𝓤 H 𝓜 (tables 𝓤 H 𝓜 𝓡 𝓡.env) in
      entered 𝓤 H (triple_of 𝓛 (ended row).signature (closing 𝓛 (ended row) clauses)) 𝓣.C 𝓣.Λ key (empty_struct name) closed (meets 𝓣)

-- ---- with a value before it

-- a method, which is handed a reference to a value of a type beside its own, and returns another struct of its name
abbrev pub empty_struct_behind : Sym → Fn
empty_struct_behind name = record {
  lifetimes = 2;
  outlives = (2, 1) ∷ [];
  ty_params = a_type ∷ [];
  givens = 0;
  params = 2;
  locals = local (ty_struct name tnil) value_local
      ∷ local (ty_ref (named 0) imm (ty_named (name, []) tnil)) value_local
      ∷ local (ty_ref (named 1) imm (ty_param 0)) value_local ∷ [];
  body = seq (assign (place 0 []) (aggregate [])) return;
}

module _ (row : RattleType) (one : One row.mir) (T : RattleType) where
  abbrev self : Slot 3
  self = RefOf (0 ∷ []) tt (plain (λ _. row)) (λ _. one)

  abbrev seen : Slot 3
  seen = RefOf (1 ∷ []) tt (plain (λ _. param 0 T)) (λ _. tt)

  -- its signature
  abbrev pub ended_behind : List (Outlives 3) → Ended
  ended_behind outlives = record {
    signature = record { lifetimes = 3; outlives = outlives; params = self ∷ seen ∷ []; result = plain (λ _. row) };
    kept = (yes, (yes, tt));
  }

-- its contract, which says `Holds` of a ghost that the caller's proof picks, of the value before and of what is returned
module _ (row : RattleType) (one : One row.mir) (name : Sym) (Ghost : Type 0) (Holds : Ghost → row.Denot → row.Denot → Type 0)
    (made : Ghost → row.Denot → row.Denot)
    (holds : (g : Ghost) (before : row.Denot) → Holds g before (made g before))
    (pure : (g : Ghost) (before : row.Denot) → Pure (row.own_val (made g before) (vstruct vnil ∷ [])))
    (shown : (g : Ghost) (before : row.Denot) → shadow (row.own_val (made g before) (vstruct vnil ∷ [])))
    (T : RattleType) (outlives : List (Outlives 3)) {M : Type 1} {𝓤 : Ura M} (𝓛 : Logic 𝓤)
    (requires : (κs : Lfts 3) → Args (ended_behind row one T outlives).signature κs → Ghost → SProp 𝓤) where
  open 𝓛 use {H}

  abbrev its : Ended
  its = ended_behind row one T outlives

  abbrev stayed : Stays its.signature.params its.kept
  stayed = (stay_dropped (self row one T) yes, (stay_dropped (seen row one T) yes, tt))

  abbrev held : Clauses 𝓤 its
  held κs a = record { ghost = Ghost; requires = requires κs a; ensures = λ g r e. fact 𝓤 (Holds g a.0.now r) }

  abbrev function : Fn
  function = inst_fn (layouts (a_type ∷ []) (T, tt)) (empty_struct_behind name)

  module _ (C : Calls 𝓤 H) (Λ : Loops 𝓤 H) (z : (walk_of 𝓛 its stayed held).Ghost) where
    abbrev Post : Val → SProp 𝓤
    Post = (walk_of 𝓛 its stayed held).post z

    abbrev toks : SProp 𝓤
    toks = alive 𝓛 its.signature z.0.0 z.0.1

    walks : ent 𝓤 ((walk_of 𝓛 its stayed held).pre z) (WpFn 𝓤 H C Λ function ((walk_of 𝓛 its stayed held).args z) Post)
    walks =
        let a = z.0.3 in
        let vss = z.0.4 in
        let out : row.Denot = made z.1 a.0.now in
        qed 𝓛 ((raw toks ⊛ ‵ (owns (types_at its.signature.params z.0.0) a vss)) ∷ raw ((held z.0.0 a).requires z.1) ∷ []) ∵
        keep ! (0 ∷ []) $ split ! $ move ! (1 ∷ []) $
        fsplit ! $ fsplit ! $ feq_l ! (λ is₀. drop ! $ fsplit ! $ fsplit ! $ feq_l ! (λ is₁. drop ! $ drop ! $
        let p = vptr a.0.ref_ptr.0 a.0.ref_ptr.1 in
        let q = vptr a.1.0.ref_ptr.0 a.1.0.ref_ptr.1 in
        regoal ! (λ (us : List Val). prop (WpFn 𝓤 H C Λ function (us ++ (vss.1.0 ++ [])) Post)) is₀ refl $
        regoal ! (λ (us : List Val). prop (WpFn 𝓤 H C Λ function ((p ∷ []) ++ (us ++ [])) Post)) is₁ refl $
        enter ! C Λ function (p ∷ q ∷ []) Post $ alloc_all ! (λ l. pass_all ! refl ((tt, tt), ((tt, tt), tt)) $
        sets ! (agg ! (no_more !)) refl (tt, tt) $
        returns ! (look_at ! 0 refl) $ free_all ! refl $
        suffices ! _ (ends_at 𝓛 its stayed held z (vstruct vnil) out (tt, (tt, tt)) (tt, (tt, tt))) $ says ! (holds z.1 a.0.now) $
        pure_i ! (row.own_val out (vstruct vnil ∷ [])) (pure z.1 a.0.now) (shown z.1 a.0.now) $
        nothing ! $ nothing ! $ fjoin ! $ nothing ! $ fjoin ! $ move ! (2 ∷ 0 ∷ 1 ∷ []) $ done !)))

  meets_behind : (𝓣 : Tables 𝓤 H) → Meets 𝓛 its.signature (WpFn 𝓤 H 𝓣.C 𝓣.Λ function) (closing 𝓛 its held)
  meets_behind 𝓣 =
      walk_Meets 𝓛 its stayed (
        Goes-dropped 𝓛 3 (self row one T) yes (λ κs x f. refl),
        (Goes-dropped 𝓛 3 (seen row one T) yes (λ κs x f. refl), tt),
      ) held
      (WpFn 𝓤 H 𝓣.C 𝓣.Λ function) (WpFn-mono 𝓤 H 𝓛.laws 𝓣 function) (walks 𝓣.C 𝓣.Λ)

  pub met_behind : (𝓜 : Model 𝓤 H) (𝓡 : Running 𝓤 H 𝓜) (key : Callee)
      → Closed 𝓤 H (tables 𝓤 H 𝓜 𝓡 𝓡.env).C (tables 𝓤 H 𝓜 𝓡 𝓡.env).Λ key function
      → Triple 𝓤 ((tables 𝓤 H 𝓜 𝓡 𝓡.env).C key) (triple_of 𝓛 its.signature (closing 𝓛 its held))
  unfolding tables_of
  met_behind 𝓜 𝓡 key closed =
      let 𝓣 : Tables 𝓤 H = tables_of 𝓤 H 𝓜 (tables 𝓤 H 𝓜 𝓡 𝓡.env) in
      entered 𝓤 H (triple_of 𝓛 its.signature (closing 𝓛 its held)) 𝓣.C 𝓣.Λ key function closed (meets_behind 𝓣)
