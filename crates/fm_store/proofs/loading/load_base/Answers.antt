-- The states in the slot are not those of such modules.
use Rattle.std.proofs.Common.{◌∙◌, refl, sym, subst, List, ℕ}
use Rattle.std.proofs.lemmas.List.{length-map}
use Rattle.fm_logs.specs.ReadsAsBook.{AreLoaded}
use Rattle.fm_logs.specs.StoreBook.{HaveConf}
use Rattle.fm_store.specs.Loading.{states_of}
use Rattle.fm_store.specs.StoreOf.{made_modules}
use Rattle.fm_store.proofs.Loads.{loaded_many, none_in_force}
use Rattle.fm_store.proofs.loading.load_base.Goals as goal

pub returns-then-len-clause-cause : goal.returns-then-len-clause-cause
returns-then-len-clause-cause g c = λ sequence. (
  c.slot_disk.ensures,
  refl,
  λ fit modules loaded have.
      c.if-len.true
      (c.len.ensures
      ∙ loaded_many (made_modules g.M.Module c.args.fresh.items) c.args.states modules loaded
      ∙ length-map c.args.fresh.items _
      ∙ sym (c.len-2.ensures ∙ c.args.fresh.ok.0)),
)

pub returns-in-Ok-clause-cause : goal.returns-in-Ok-clause-cause
returns-in-Ok-clause-cause g c = λ sequence. (
  c.slot_disk.ensures,
  refl,
  λ fit modules loaded have.
      none_in_force (made_modules g.M.Module c.args.fresh.items) c.args.states
      (states_of g.M.Module c.in-Ok.modules.items) modules c.args.in_force
      (subst (λ (l : List (List ℕ)). AreLoaded (made_modules g.M.Module c.args.fresh.items) l
      (states_of g.M.Module c.in-Ok.modules.items)) c.as_slice.ensures c.in-Ok.ensures.loaded)
      (subst (λ l. HaveConf c.args.in_force (states_of g.M.Module l) → ⊥)
      c.as_slice-in-Ok.ensures.value
      (c.are_in_force.ensures.no c.if-are_in_force.false)) fit loaded have,
)
