-- What is evaluated in one place.
use Rattle.std.proofs.Common.{◌≡◌, ℕ, List, [], ◌∷◌, false, Option, None, Some, Result, Err, sym, ap, subst, option_map}
use Rattle.std.specs.Prelude.{Vec, IfSome}
use Rattle.std.specs.declared.alloc.Global.{Global}
use Rattle.item_tree.specs.declared.item.Item.{Item}
use Rattle.item_tree.specs.declared.fault.Fault.{Fault}
use Rattle.outside.specs.Opens.{InputCounts}
use Rattle.outside.specs.World.{World}
use Rattle.seq_types.specs.declared.types.SeqType.{SeqType}
use Rattle.query_tree.specs.Bound.{BoundTree}
use Rattle.query_tree.specs.Compiled.{CompiledTree, bound_trees}
use Rattle.query_tree.specs.Plain.{PlainCatches}
use Rattle.query_tree.specs.declared.bound.Slot.{Slot}
use Rattle.query_tree.specs.declared.bound.Target.{Target}
use Rattle.query_meaning.specs.Choices.{handled, or_handled}
use Rattle.query_meaning.specs.Environment.{Environment, Inner}
use Rattle.query_meaning.specs.Meaning.{eval}
use Rattle.query_meaning.specs.Outcome.{Outcome}
use Rattle.query_meaning.specs.declared.env.Env.{Env}
use Rattle.query_meaning.specs.declared.library.Library.{Library}
use Rattle.query_meaning.specs.declared.value.Value.{Value}
use Rattle.query_meaning.specs.inside.Evaluates.{Answer}
use Rattle.query_meaning.specs.inside.Gives.{Gives}
use Rattle.query_meaning.specs.inside.Views.{items_of, tuple_of, lists_of, library_of, borrowed, program_of, environment_of, eval_in}
use Rattle.mode_planner.specs.Spine.{is_passed}
use Rattle.piece_seats.specs.declared.text.Text.{Text}
use Rattle.piece_run.specs.Kept.{KeptIs}
use Rattle.rumble_run.specs.inside.Walked.{Prints, Setting, Walked, own_program, own_environment, leaf_driver}
use Rattle.piece_run.specs.declared.leaf_fault.LeafFault.{LeafFault}
use Rattle.rumble_run.proofs.SpineSteps.{walked_whole}

-- An environment of the code, in which the parts of a body are evaluated at this depth.
pub record IsPlace (env : Env) (query : CompiledTree) (library : Library) (frame : List Value) (globals : List (Vec Item Global)) (depth : ℕ) : Type 0 where
  pub module_is : env.module.now ≡ query
  pub library_is : env.library.now ≡ library
  pub globals_is : env.globals.now ≡ globals
  pub frame_is : env.frame.now ≡ frame
  pub context_is : env.context ≡ None
  pub depth_is : env.depth ≡ depth

pub whole_there : (env : Env) (query : CompiledTree) (library : Library) (frame : List Value) (globals : List (Vec Item Global)) (depth : ℕ) (tree : BoundTree) (r : Answer) → IsPlace env query library frame globals depth
    → Gives items_of r (eval_in env tree (environment_of env)) → Gives items_of r (eval (own_program query library) depth tree (own_environment frame globals))
unfolding program_of environment_of eval_in
whole_there env query library frame globals depth tree r p h =
    let programs : program_of env ≡ own_program query library = λ i. record { functions = (bound_trees (p.module_is i).tree).functions; width = (p.module_is i).width; library = library_of (p.library_is i) } in
    let places : environment_of env ≡ own_environment frame globals = λ i. record { frame = tuple_of (p.frame_is i); globals = lists_of (p.globals_is i); item = option_map borrowed (p.context_is i) } in
    subst (λ o. Gives items_of r o) (λ i. eval (programs i) (p.depth_is i) tree (places i)) h

pub handled_there : (env : Env) (query : CompiledTree) (library : Library) (frame : List Value) (globals : List (Vec Item Global)) (depth : ℕ) (cs : PlainCatches Slot Target SeqType) (fault : Fault) (r : Answer) → IsPlace env query library frame globals depth
    → Gives items_of r (handled (eval_in env) cs (environment_of env) fault) → Gives items_of r (handled (eval (own_program query library) depth) cs (own_environment frame globals) fault)
unfolding program_of environment_of eval_in
handled_there env query library frame globals depth cs fault r p h =
    let programs : program_of env ≡ own_program query library = λ i. record { functions = (bound_trees (p.module_is i).tree).functions; width = (p.module_is i).width; library = library_of (p.library_is i) } in
    let places : environment_of env ≡ own_environment frame globals = λ i. record { frame = tuple_of (p.frame_is i); globals = lists_of (p.globals_is i); item = option_map borrowed (p.context_is i) } in
    subst (λ o. Gives items_of r o) (λ i. handled (eval (programs i) (p.depth_is i)) cs (places i) fault) h

-- ---- what a `try` catches

pub raised_kept : (fault : Fault) (r : Result Text LeafFault) (inner : Inner) (cs : PlainCatches Slot Target SeqType) (env : Environment) → KeptIs Prints r (handled inner cs env fault) → (meant : Outcome) → meant ≡ Err fault → KeptIs Prints r (or_handled inner cs env meant)
raised_kept fault r inner cs env k meant h = subst (KeptIs Prints r) (sym (ap (or_handled inner cs env) h)) k

-- ---- a leaf that is evaluated in one place

pub whole_printed : (s : Setting) (world : Option World) (depth : ℕ) (t : BoundTree) (r : Result Text LeafFault) (counts : InputCounts) → is_passed t ≡ false → leaf_driver t ≡ None → KeptIs Prints r (eval s.own depth t s.env)
    → IfSome world (λ w. Walked Prints s w depth (t ∷ []) r counts counts)
whole_printed s None depth t r counts l none h = tt
whole_printed s (Some w) depth t r counts l none h = walked_whole Prints s w depth t r counts l none h
