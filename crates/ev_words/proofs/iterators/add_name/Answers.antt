use Rattle.std.proofs.Common.{◌∙◌}
use Rattle.std.specs.Prelude.{string_bytes}
use Rattle.ev_words.proofs.Naming.{name_in}
use Rattle.ev_words.proofs.iterators.add_name.Goals as goal

pub returns : goal.returns
returns c = name_in (λ s. string_bytes s) c.in_ok-name.name c.args.names.now.keys
    c.insert.new.self.keys c.args.name.now c.in_ok-insert.ensures.keys (c.in_ok-name.ensures.ok
    ∙ c.get.ensures.bytes)
