use Rattle.any_game.proofs.Depths.{all_are_shallow}
use Rattle.world_convergence.proofs.laws.worlds_of_all_games_converge.Goals as goal

pub returns : goal.returns
returns c = λ named tape run.
    let matches = c.clients_of_worlds_see_their_matches.ensures in
    let follows = c.clients_of_worlds_follow_their_sessions.ensures in
    let others = c.clients_of_other_games_are_lost.ensures in
    record {
      synced = matches.synced all_are_shallow named tape run;
      trails = follows.trails all_are_shallow named tape run;
      answers = follows.answers all_are_shallow named tape run;
      sees = λ client held s m meets game. record {
        settled = matches.settled all_are_shallow named tape run client held s m meets game;
        present = matches.present all_are_shallow named tape run client held s m meets game;
        goes_on = c.clients_of_worlds_go_on_until_a_bye.ensures.reads all_are_shallow named tape run client held s m meets game;
        shown = c.show_lines_print_what_is_settled.ensures all_are_shallow named tape run client held s m meets game;
      };
      lost = λ client held s m meets other. record {
        nothing = others.nothing named tape run client held s m meets other;
        sync = others.sync named tape run client held s m meets other;
        gone = others.gone named tape run client held s m meets other;
      };
    }
