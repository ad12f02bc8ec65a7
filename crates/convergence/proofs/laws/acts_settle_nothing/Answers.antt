use Rattle.client_predict.specs.Client.{fresh}
use Rattle.convergence.proofs.Likes.{all_alike, like, like_settled}
use Rattle.convergence.proofs.laws.acts_settle_nothing.Goals as goal

pub returns-clause-follows : goal.returns-clause-follows
returns-clause-follows g c = λ any doings a. all_alike (g.X.Game.rules any) fresh fresh doings a (like fresh)

pub returns-clause-on : goal.returns-clause-on
returns-clause-on g c = λ any c d doings a l. all_alike (g.X.Game.rules any) c d doings a l

pub returns-clause-settled : goal.returns-clause-settled
returns-clause-settled g c = λ c d l. like_settled c d l
