use Rattle.std.proofs.Common.{◌∙◌, ap}
use Rattle.hys_json.specs.Values.{is_one_of}
use Rattle.hys_file.proofs.Known.{has_key}
use Rattle.hys_file.proofs.names.Names.has.Goals as goal

pub returns : goal.returns
returns c = c.contains.ensures ∙ has_key c.self.inside.names.keys c.args.name.now ∙ ap (λ ns. is_one_of ns c.args.name.now) c.self.view_is
