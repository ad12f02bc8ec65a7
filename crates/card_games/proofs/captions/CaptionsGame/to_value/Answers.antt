use Rattle.std.proofs.Common.{◌∙◌, ap}
use Rattle.serde_json.specs.Written.{has_float}
use Rattle.card_games.specs.FloatFree.{texts_float_free}
use Rattle.card_games.proofs.captions.CaptionsGame.to_value.Goals as goal

pub returns-clause-float_free : goal.returns-clause-float_free
returns-clause-float_free c = ap has_float c.in_ok-to_json.ensures ∙ texts_float_free c.args.g.now
