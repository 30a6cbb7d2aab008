-- A pair that nothing refuses has a name, and there is room for it; the list with it has a
-- spelling.
use Rattle.std.proofs.Common.{◌≡◌, arith, ap, sym, ◌∙◌, subst}
use Rattle.std.proofs.lemmas.Str.{is_utf8-from_IsUtf8}
use Rattle.fm_nv.specs.Data.{no_pairs, add, count}
use Rattle.fm_nv.specs.Kept.{pairs_kept}
use Rattle.fm_nv.specs.Spelled.{IsSpelledList}
use Rattle.fm_nv.specs.View.{datum}
use Rattle.fm_nv.proofs.Adding.{name_allowed, spelled_add}
use Rattle.fm_nv.proofs.nv.Nv.append.Goals as goal

pub push-requires-clause-name : goal.push-requires-clause-name
push-requires-clause-name c =
    (name_allowed _ _ c.args.self.now (is_utf8-from_IsUtf8 _ c.utf8.name) c.requires.allowed).0

pub push-requires-clause-room : goal.push-requires-clause-room
push-requires-clause-room c =
    let room = (name_allowed _ _ c.args.self.now (is_utf8-from_IsUtf8 _ c.utf8.name)
    c.requires.allowed).1 in
    let kept = c.deref_mut.ensures.value ∙ sym (ap pairs_kept c.in-Some.is) ∙ c.self.view_is in
    omega (arith, room, ap count kept)

pub invariant_of-self-in-Some : goal.invariant_of-self-in-Some
invariant_of-self-in-Some c =
    let kept = c.deref_mut.ensures.value ∙ sym (ap pairs_kept c.in-Some.is) ∙ c.self.view_is in
    let old = subst IsSpelledList c.self.view_is c.self.invariant in
    subst IsSpelledList (sym (c.in_ok-push.ensures.ok
    ∙ ap (add c.args.name.now (datum c.args.value)) kept))
    (spelled_add _ _ c.args.self.now old (is_utf8-from_IsUtf8 _ c.utf8.name) c.requires.fits
    c.requires.allowed)

pub only_pair-requires : goal.only_pair-requires
only_pair-requires c =
    (name_allowed _ _ c.args.self.now (is_utf8-from_IsUtf8 _ c.utf8.name) c.requires.allowed).0

pub invariant_of-self-2 : goal.invariant_of-self-2
invariant_of-self-2 c =
    let none : no_pairs ≡ c.args.self.now = sym (ap pairs_kept c.in_default.is) ∙ c.self.view_is in
    let old = subst IsSpelledList c.self.view_is c.self.invariant in
    subst IsSpelledList (sym (c.in_ok-content.ensures.ok
    ∙ ap (add c.args.name.now (datum c.args.value)) none))
    (spelled_add _ _ c.args.self.now old (is_utf8-from_IsUtf8 _ c.utf8.name) c.requires.fits
    c.requires.allowed)
