use Rattle.std.proofs.Common.{◌<◌, [], ◌∷◌, ◌++◌, refl, sym, ap, ◌∙◌, subst}
use Rattle.fm_status.specs.Rows.{put_row}
use Rattle.fm_status.proofs.RowPlaces.{place_within, is_replaced, is_added}
use Rattle.fm_status.proofs.status.Status.put.Goals as goal

pub index_mut-requires : goal.index_mut-requires
index_mut-requires c =
    subst (λ n. c.in-Some.place.now < n) (sym c.self.inside.rows.ok.0)
    (place_within c.self.inside.rows.items c.self.inside.places.entries c.case_key-key.result
    c.in-Some.place.now c.self.invariant (sym c.in-Some.ensures.value))

pub invariant_of-self : goal.invariant_of-self
invariant_of-self c =
    (is_replaced c.self.inside.rows.items _ c.self.inside.places.entries c.case_key-key.result
    c.in-Some.place.now c.args.word c.args.word c.self.invariant c.case_key-key.ensures
    refl (sym c.in-Some.ensures.value) refl).placed

pub returns-in-Some-clause-ok : goal.returns-in-Some-clause-ok
returns-in-Some-clause-ok c =
    (is_replaced c.self.inside.rows.items _ c.self.inside.places.entries c.case_key-key.result
    c.in-Some.place.now c.args.word c.args.word c.self.invariant c.case_key-key.ensures
    refl (sym c.in-Some.ensures.value) refl).values
    ∙ ap (λ z. put_row z c.args.word) c.self.view_is

pub invariant_of-self-in-None : goal.invariant_of-self-in-None
invariant_of-self-in-None c =
    (is_added c.self.inside.rows.items c.push_reserved.new.self.items
    c.self.inside.places.entries c.insert.new.self.entries c.case_key-key.result c.len.result
    c.args.word c.args.word c.self.invariant c.case_key-key.ensures refl
    (sym c.in-None.ensures.value)
    (c.len.ensures ∙ (c.reserve.ensures.len ∙ c.self.inside.rows.ok.0))
    (c.push_reserved.ensures.items
    ∙ ap (λ z. z ++ (c.args.word ∷ [])) c.reserve.ensures.items)
    c.in_ok-insert-in-None.ensures.entries c.insert.ensures.ordered).placed

pub returns-in_ok-insert-in-None-clause-ok : goal.returns-in_ok-insert-in-None-clause-ok
returns-in_ok-insert-in-None-clause-ok c =
    (is_added c.self.inside.rows.items c.push_reserved.new.self.items
    c.self.inside.places.entries c.insert.new.self.entries c.case_key-key.result c.len.result
    c.args.word c.args.word c.self.invariant c.case_key-key.ensures refl
    (sym c.in-None.ensures.value)
    (c.len.ensures ∙ (c.reserve.ensures.len ∙ c.self.inside.rows.ok.0))
    (c.push_reserved.ensures.items
    ∙ ap (λ z. z ++ (c.args.word ∷ [])) c.reserve.ensures.items)
    c.in_ok-insert-in-None.ensures.entries c.insert.ensures.ordered).values
    ∙ ap (λ z. put_row z c.args.word) c.self.view_is
