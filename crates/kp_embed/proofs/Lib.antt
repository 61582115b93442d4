pub mod OneCluster
pub mod OpenedAgain
